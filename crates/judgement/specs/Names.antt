-- The names of src/lib.rt, of the code and of the printer, for one `use` line.
pub use Rattle.code.specs.declared.Case.{Case}
pub use Rattle.code.specs.declared.Case.TheVariants.{Letters, Figures}
pub use Rattle.code.specs.declared.Kind.{Kind}
pub use Rattle.code.specs.declared.Kind.TheVariants.{Still, Space, Return, Shift, Char}
pub use Rattle.printer.specs.declared.Printer.{Printer}
pub use Rattle.printer.specs.declared.Mark.{Mark}
pub use Rattle.judgement.specs.declared.Spot.{Spot}
pub use Rattle.judgement.specs.declared.Spot.TheVariants.{At, From}
pub use Rattle.judgement.specs.declared.Verdict.{Verdict}
pub use Rattle.judgement.specs.declared.Verdict.TheVariants as verdict
pub use Rattle.judgement.specs.declared.NoCode.{NoCode}
pub use Rattle.judgement.specs.declared.Watch.{Watch}
pub use Rattle.judgement.specs.declared.Strike.{Strike}
pub use Rattle.judgement.specs.declared.Judgement.{Judgement}
pub use Rattle.judgement.specs.declared.Tally.{Tally}
pub use Rattle.judgement.specs.declared.Line.{Line}
pub use Rattle.judgement.specs.declared.Page.{Page}
