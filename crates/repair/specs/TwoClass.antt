-- The two-class code as an engine sees it. Assumes nothing.
use Rattle.std.specs.Prelude.{ℕ, ◌+◌, ◌*◌}
use Rattle.field.specs.Laws.{Operations}
use Rattle.code.specs.Codes.{CodeMeaning}
use Rattle.array.specs.declared.parameters.Parameters.{Parameters}
use Rattle.array.specs.Layout.{nodes}
use Rattle.array.specs.Symbols.{array}
use Rattle.array.specs.Sheet.{mend_entries}
use Rattle.array.specs.Recovered.{restored}
use Rattle.access.specs.Fetch.{fetch_entries, fetch_symbol}
use Rattle.access.specs.Put.{put_entries, put_weight}

-- k rows, k data nodes, n nodes over a field of at least k + a symbols; `symbol` gives the field's symbols by number.
-- Fetch and mend need k k records of working memory. No sheet depends on which places are blank.
unfoldable pub two_class : {F : Type 0} → Operations F → (ℕ → F) → Parameters → CodeMeaning F
two_class o symbol p = record {
  rows = p.k;
  columns = p.k;
  nodes = nodes p;
  field_size = p.k + p.a;
  symbol = array o symbol p;
  fetch_room = p.k * p.k;
  mend_room = λ node. p.k * p.k;
  mend = λ blank node. record { entries = mend_entries p node; symbol = λ f i. restored o symbol p f node i };
  fetch = λ blank row column. record { entries = fetch_entries p row column; symbol = λ f i. fetch_symbol o symbol p f row column };
  put = λ row column. record { entries = put_entries p row column; weight = put_weight o symbol p row column };
}
