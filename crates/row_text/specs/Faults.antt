-- What is said of a line that holds no row. Assumes nothing.
use Rattle.std.specs.Prelude.{ℕ, List, ◌++◌, codes, decimal}
use Rattle.row_text.specs.declared.fault.InputFault.{InputFault}
use Rattle.row_text.specs.declared.fault.InputFault.TheVariants.{NotText, NoSymbol, WordCount}

abbrev pub fault_text : InputFault → List ℕ
fault_text (NotText column) = codes "column " ++ (decimal column ++ codes ": this byte is no text")
fault_text (NoSymbol word column) =
    codes "word " ++ (decimal word ++ (codes " at column " ++ (decimal column ++ codes ": a symbol is one of 0 to 9 or X")))
fault_text (WordCount words) = codes "words: " ++ (decimal words ++ codes ", and a row has 3 to 9")
