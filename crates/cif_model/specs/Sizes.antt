-- How much a CIF text stands for, and whether that is too much.
use Rattle.std.specs.Prelude.{◌+◌, ℕ, max, List, [], ◌∷◌, ◌++◌, fold, slice_index_or}
use Rattle.cif_model.specs.Cifs.{CifParts}
use Rattle.cif_model.specs.declared.cifs.CifItem.{CifItem}
use Rattle.cif_model.specs.declared.cifs.CifItem.TheVariants.{Area, Call}
use Rattle.cif_model.specs.declared.cifs.CifSymbol.{CifSymbol}

-- the symbols in the longest chain of calls, the instances of symbols, and the boxes
pub record CifSize : Type 0 where
  pub depth : ℕ
  pub instances : ℕ
  pub boxes : ℕ

abbrev pub no_size : CifSize
no_size = record { depth = 0; instances = 0; boxes = 0 }

-- an item's size, where the symbols before have these
abbrev pub size_of_item : List CifSize → CifItem → CifSize
size_of_item sizes (Area layer area) = record { depth = 0; instances = 0; boxes = 1 }
size_of_item sizes (Call symbol moves) = slice_index_or sizes symbol no_size

-- side by side: the deeper chain, and all instances and boxes
abbrev pub beside : CifSize → CifSize → CifSize
beside one other = record { depth = max one.depth other.depth; instances = one.instances + other.instances; boxes = one.boxes + other.boxes }

abbrev pub size_of_items : List CifSize → List CifItem → CifSize
size_of_items sizes items = fold (λ size item. beside size (size_of_item sizes item)) no_size items

-- a symbol is one more instance, above all in it
abbrev pub size_of_symbol : List CifSize → CifSymbol → CifSize
size_of_symbol sizes symbol =
    let within = size_of_items sizes symbol.items in
    record { depth = within.depth + 1; instances = within.instances + 1; boxes = within.boxes }

-- the sizes of symbols that call earlier ones alone
abbrev pub sizes_of : List CifSymbol → List CifSize
sizes_of symbols = fold (λ sizes symbol. sizes ++ size_of_symbol sizes symbol ∷ []) [] symbols

-- the size of a text: its top level is no symbol
abbrev pub size_of : CifParts → CifSize
size_of cif = size_of_items (sizes_of cif.symbols) cif.top
