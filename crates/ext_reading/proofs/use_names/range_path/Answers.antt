use Rattle.ext_reading.proofs.Common.{◌≡◌, ℕ, List, [], ◌∷◌, ◌++◌, decimal}
use Rattle.std.proofs.lemmas.List.{append_assoc}
use Rattle.ext_reading.proofs.use_names.range_path.Goals as goal

-- the parts one after another
joined : (id lo hi j rest : List ℕ)
    → (((((((id ++ 91 ∷ []) ++ lo) ++ 58 ∷ []) ++ hi) ++ 44 ∷ []) ++ j) ++ 93 ∷ 47 ∷ []) ++ rest
    ≡ id ++ 91 ∷ (lo ++ 58 ∷ (hi ++ 44 ∷ (j ++ 93 ∷ 47 ∷ rest)))
joined id lo hi j rest = simp append_assoc

pub returns : goal.returns
returns c =
    let range = c.args.range.now in
    let all = joined range.id (decimal range.lo) (decimal range.hi) (decimal range.j) range.rest in
    cc (
      c.bytes.ensures,
      c.in_ok-text.ensures.items,
      c.in_ok-push.ensures.items,
      c.in_ok-append_index.ensures,
      c.in_ok-push-2.ensures.items,
      c.in_ok-append_index-2.ensures,
      c.in_ok-push-3.ensures.items,
      c.in_ok-append_index-3.ensures,
      c.in_ok-extend_from_slice.ensures.items,
      c.bytes-2.ensures,
      c.in_ok-extend_from_slice-2.ensures.items,
    )
