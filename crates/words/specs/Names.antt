-- The names of src/lib.rt, for one `use` line.
pub use Rattle.words.specs.declared.Phase.{Phase}
pub use Rattle.words.specs.declared.Phase.TheVariants.{Start, Bare, Sheet, Ended}
pub use Rattle.words.specs.declared.Word.{Word}
pub use Rattle.words.specs.declared.Word.TheVariants as word
pub use Rattle.words.specs.declared.BadWord.{BadWord}
pub use Rattle.words.specs.declared.Reader.{Reader}
pub use Rattle.words.specs.declared.Read.{Read}
pub use Rattle.words.specs.declared.Setting.{Setting}
pub use Rattle.words.specs.declared.Setting.TheVariants as setting
