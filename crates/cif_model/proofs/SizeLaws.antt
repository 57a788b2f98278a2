-- The sizes of a lawful text: a symbol's is one instance and one level more than its items have, and a call's is that of its symbol.
use Rattle.std.proofs.Common.{◌≡◌, ℕ, zero, suc, ◌+◌, ◌<◌, ◌≤◌, max, List, [], ◌∷◌, ◌++◌, Some, inl, inr, length, take, drop, get_or, refl, sym, ◌∙◌, ap, subst}
use Rattle.std.proofs.Common.{arith}
use Rattle.std.specs.Prelude.{All, fold, slice_get, slice_index_or}
use Rattle.std.proofs.lemmas.List.{append_assoc, append-nil, length-append, get_or_append_left, get_or_at, length-take-le}
use Rattle.std.proofs.lemmas.List.Sums.{fold-append}
use Rattle.std.proofs.lemmas.Option.{slice_get_within}
use Rattle.finite_sets.specs.Lists.{In}
use Rattle.finite_sets.proofs.Places.{cut-slice_get}
use Rattle.finite_sets.proofs.Searches.{All-In}
use Rattle.cif_model.specs.Cifs.{CifParts, IsLawfulItem, IsLawfulCif}
use Rattle.cif_model.specs.declared.cifs.CifItem.{CifItem}
use Rattle.cif_model.specs.declared.cifs.CifItem.TheVariants.{Area, Call}
use Rattle.cif_model.specs.declared.cifs.CifMove.{CifMove}
use Rattle.cif_model.specs.declared.cifs.CifSymbol.{CifSymbol}
use Rattle.cif_model.specs.Sizes.{CifSize, no_size, size_of_item, beside, size_of_items, size_of_symbol, sizes_of}

-- the sizes of symbols that follow others with these sizes, behind those
abbrev pub sizes_after : List CifSize → List CifSymbol → List CifSize
sizes_after sizes symbols = fold (λ before symbol. before ++ size_of_symbol before symbol ∷ []) sizes symbols

-- they begin with what was there
pub sizes_after-begins : (sizes : List CifSize) (symbols : List CifSymbol) → (more : List CifSize) × (sizes_after sizes symbols ≡ sizes ++ more)
sizes_after-begins sizes [] = ([], sym (append-nil sizes))
sizes_after-begins sizes (symbol ∷ symbols) =
    let rest = sizes_after-begins (sizes ++ size_of_symbol sizes symbol ∷ []) symbols in
    (size_of_symbol sizes symbol ∷ rest.0, rest.1 ∙ append_assoc sizes (size_of_symbol sizes symbol ∷ []) rest.0)

-- there is one for each symbol
pub length-sizes_after : (sizes : List CifSize) (symbols : List CifSymbol) → length (sizes_after sizes symbols) ≡ length sizes + length symbols
length-sizes_after sizes [] = omega arith
length-sizes_after sizes (symbol ∷ symbols) =
    let rest = length-sizes_after (sizes ++ size_of_symbol sizes symbol ∷ []) symbols in
    omega (arith, rest, length-append sizes (size_of_symbol sizes symbol ∷ []))

pub length-sizes_of : (symbols : List CifSymbol) → length (sizes_of symbols) ≡ length symbols
length-sizes_of symbols = omega (arith, length-sizes_after [] symbols)

-- an item that calls one of the first symbols alone is as large where there are more
size_of_item-earlier : (layers : ℕ) (sizes more : List CifSize) (item : CifItem) → IsLawfulItem layers (length sizes) item
    → size_of_item (sizes ++ more) item ≡ size_of_item sizes item
size_of_item-earlier layers sizes more (Area layer area) lawful = refl
size_of_item-earlier layers sizes more (Call symbol moves) lawful = get_or_append_left sizes more no_size symbol lawful.0

-- the size of items beside a size
abbrev size_beside : List CifSize → CifSize → List CifItem → CifSize
size_beside sizes size items = fold (λ size item. beside size (size_of_item sizes item)) size items

size_beside-earlier : (layers : ℕ) (sizes more : List CifSize) (size : CifSize) (items : List CifItem)
    → ((item : CifItem) → In item items → IsLawfulItem layers (length sizes) item) → size_beside (sizes ++ more) size items ≡ size_beside sizes size items
size_beside-earlier layers sizes more size [] lawful = refl
size_beside-earlier layers sizes more size (item ∷ items) lawful =
    let one = size_of_item-earlier layers sizes more item (lawful item (inl refl)) in
    ap (λ next. size_beside (sizes ++ more) (beside size next) items) one
    ∙ size_beside-earlier layers sizes more (beside size (size_of_item sizes item)) items (λ other there. lawful other (inr there))

-- the sizes, cut behind a symbol
sizes_cut : (symbols : List CifSymbol) (place : ℕ) (symbol : CifSymbol) → slice_get symbols place ≡ Some symbol
    → (more : List CifSize) × (sizes_of symbols ≡ sizes_of (take place symbols) ++ (size_of_symbol (sizes_of (take place symbols)) symbol ∷ more))
sizes_cut symbols place symbol is =
    let before = sizes_of (take place symbols) in
    let more = sizes_after-begins (before ++ size_of_symbol before symbol ∷ []) (drop (place + 1) symbols) in (
      more.0,
      ap sizes_of (cut-slice_get symbols place symbol is)
          ∙ fold-append (λ sizes one. sizes ++ size_of_symbol sizes one ∷ []) [] (take place symbols) (symbol ∷ drop (place + 1) symbols)
          ∙ more.1
          ∙ append_assoc before (size_of_symbol before symbol ∷ []) more.0,
    )

-- the size at a symbol's place is the symbol's, by the sizes of all
pub size_at-symbol : (cif : CifParts) (place : ℕ) (symbol : CifSymbol) → IsLawfulCif cif → slice_get cif.symbols place ≡ Some symbol
    → slice_index_or (sizes_of cif.symbols) place no_size ≡ size_of_symbol (sizes_of cif.symbols) symbol
size_at-symbol cif place symbol lawful is =
    let before = sizes_of (take place cif.symbols) in
    let cut = sizes_cut cif.symbols place symbol is in
    let within = slice_get_within cif.symbols place symbol is in
    let long : length before ≡ place = length-sizes_of (take place cif.symbols) ∙ length-take-le place cif.symbols (omega arith) in
    let all = lawful.symbols place symbol is in
    let each : (item : CifItem) → In item symbol.items → IsLawfulItem (length cif.layers) (length before) item =
    λ item there. subst (λ n. IsLawfulItem (length cif.layers) n item) (sym long)
    (All-In (IsLawfulItem (length cif.layers) place) symbol.items item all there) in
    let same : size_of_items (sizes_of cif.symbols) symbol.items ≡ size_of_items before symbol.items =
    ap (λ sizes. size_of_items sizes symbol.items) cut.1
    ∙ size_beside-earlier (length cif.layers) before (size_of_symbol before symbol ∷ cut.0) no_size symbol.items each in
    ap (λ sizes. slice_index_or sizes place no_size) cut.1
    ∙ get_or_at before (size_of_symbol before symbol) cut.0 no_size place long
    ∙ ap (λ (size : CifSize). record { depth = size.depth + 1; instances = size.instances + 1; boxes = size.boxes }) (sym same)

depth-beside : (sizes : List CifSize) (size : CifSize) (items : List CifItem) → size.depth ≤ (size_beside sizes size items).depth
depth-beside sizes size [] = omega arith
depth-beside sizes size (item ∷ items) =
    let rest = depth-beside sizes (beside size (size_of_item sizes item)) items in
    omega (arith, rest)

depth-of_item : (sizes : List CifSize) (size : CifSize) (items : List CifItem) (item : CifItem) → In item items
    → (size_of_item sizes item).depth ≤ (size_beside sizes size items).depth
depth-of_item sizes size [] item there = absurd there
depth-of_item sizes size (first ∷ items) item (inl same) =
    let rest = depth-beside sizes (beside size (size_of_item sizes first)) items in
    let depths : (size_of_item sizes first).depth ≡ (size_of_item sizes item).depth = ap (λ one. (size_of_item sizes one).depth) same in
    omega (arith, rest, depths)
depth-of_item sizes size (first ∷ items) item (inr there) = depth-of_item sizes (beside size (size_of_item sizes first)) items item there

-- how many symbols the longest chain of calls from the items has
abbrev pub depth_of : List CifSymbol → List CifItem → ℕ
depth_of symbols items = (size_of_items (sizes_of symbols) items).depth

-- a called symbol's items have a shorter one
pub depth-falls : (cif : CifParts) (items : List CifItem) (place : ℕ) (moves : List CifMove) (symbol : CifSymbol) → IsLawfulCif cif
    → In (Call place moves) items
    → slice_get cif.symbols place ≡ Some symbol → depth_of cif.symbols symbol.items + 1 ≤ depth_of cif.symbols items
depth-falls cif items place moves symbol lawful there is =
    let called = depth-of_item (sizes_of cif.symbols) no_size items (Call place moves) there in
    let at : (slice_index_or (sizes_of cif.symbols) place no_size).depth ≡ (size_of_symbol (sizes_of cif.symbols) symbol).depth =
    ap (λ (size : CifSize). size.depth) (size_at-symbol cif place symbol lawful is) in
    subst (λ n. n ≤ depth_of cif.symbols items) at called
