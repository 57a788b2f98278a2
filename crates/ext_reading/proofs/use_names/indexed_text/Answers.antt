use Rattle.ext_reading.proofs.Common.{◌≡◌, ℕ, List, [], ◌∷◌, ◌++◌, decimal}
use Rattle.std.proofs.lemmas.List.{append_assoc}
use Rattle.ext_reading.proofs.use_names.indexed_text.Goals as goal

-- the parts one after another
joined : (id first second : List ℕ)
    → ((((id ++ 91 ∷ []) ++ first) ++ 44 ∷ []) ++ second) ++ 93 ∷ [] ≡ id ++ 91 ∷ (first ++ 44 ∷ (second ++ 93 ∷ []))
joined id first second = simp append_assoc

pub returns : goal.returns
returns c =
    let all = joined c.args.id.now (decimal c.args.i.now) (decimal c.args.j.now) in
    cc (
      c.in_ok-text.ensures.items,
      c.in_ok-push.ensures.items,
      c.in_ok-append_index.ensures,
      c.in_ok-push-2.ensures.items,
      c.in_ok-append_index-2.ensures,
      c.in_ok-push-3.ensures.items,
    )
