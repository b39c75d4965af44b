-- Where the bytes of a stream go in a mode.
use Rattle.std.specs.Prelude.{Bool, true, false, cond, eqb}
use Rattle.step.specs.Names.{Connection, Stream, Host, Line, Tu, Route, Dropped, ToPrinter, ToHost, ToTu}

-- mode 1 takes host text to the printer and line codes to the host; mode 4 takes line codes to the TU and TU codes to the printer
unfoldable pub route : Connection → Stream → Route
route c Host = cond (eqb c.mode 1) ToPrinter Dropped
route c Line = cond (eqb c.mode 1) ToHost (cond (eqb c.mode 4) ToTu Dropped)
route c Tu = cond (eqb c.mode 4) ToPrinter Dropped

-- the bytes are printed
abbrev pub is_printer : Route → Bool
is_printer Dropped = false
is_printer ToPrinter = true
is_printer ToHost = false
is_printer ToTu = false
