use Rattle.tech_draft.proofs.Common.{◌≡◌, ◌++◌, ℕ, List, [], if◌then◌else◌, list_any, bytes_eq, RawTech, layer_in, layer_named, pieces_of, new_names}
use Rattle.std.proofs.Common.{Some}
use Rattle.tech_draft.proofs.draft.type_lines.index_names.Given as goal

-- the names so far name the layer, and what is left answers as all do
abbrev pub invariant-loop-name : goal.invariant-loop-name
invariant-loop-name l = record {
  names : l.names.items ++ l.name-iterator ≡ pieces_of l.list;
  indexed : (word : List ℕ) → layer_in l.index word
      ≡ (if list_any (bytes_eq word) l.names.items then Some l.layer.0 else layer_in l.initial.index word);
  same : (raw : RawTech) → ((word : List ℕ) → layer_in l.initial.index word ≡ layer_named raw word)
      → new_names raw l.names.items l.name-iterator ≡ new_names raw [] (pieces_of l.list);
}
