use Rattle.ext_reading.proofs.Common.{[], ◌∷◌, indexed_name}
use Rattle.std.proofs.lemmas.List.{append_assoc}
use Rattle.ext_reading.proofs.use_names.first_text.Goals as goal

pub returns : goal.returns
returns c =
    let range = c.args.range.now in
    let all = append_assoc (indexed_name range.id range.lo range.j) (47 ∷ []) range.rest in
    cc (c.bytes.ensures, c.in_ok-text.ensures, c.in_ok-push.ensures.items, c.bytes-2.ensures, c.in_ok-extend_from_slice.ensures.items)
