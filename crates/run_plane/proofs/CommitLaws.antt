-- The rows after a commit: two turns of the list put the new rows in their place.
use Rattle.run_plane.proofs.Common.{◌≡◌, ℕ, ◌+◌, ◌-◌, ◌≤◌, List, ◌++◌, length, take, drop, ◌∙◌, ap, append_assoc, arith, length-drop, Row, replaced}
use Rattle.std.proofs.Math.Seq.{take-append-add, take-append_seam, drop-append_seam}
use Rattle.std.proofs.lemmas.List.{take-take}
use Rattle.run_plane.specs.declared.changes.Change.{Change}
use Rattle.run_plane.specs.Contents.{IsNoChange}

-- rows cut, joined and appended are the rows replaced
pub committed : (rows others turned cut joined after : List Row) (from until above : ℕ) → from ≤ until → until ≤ length rows → above ≡ length rows - until
    → turned ≡ drop until rows ++ take until rows → cut ≡ take (above + from) turned → joined ≡ cut ++ others → after ≡ drop above joined ++ take above joined
    → after ≡ replaced rows from until others
committed rows others turned cut joined after from until above p q e-above e-turned e-cut e-joined e-after =
    let first = take from rows in
    let last = drop until rows in
    let long : above ≡ length last = omega (arith, length-drop until rows) in
    let front : take from (take until rows) ≡ first = take-take from until rows p in
    let is_cut : cut ≡ last ++ first =
    e-cut ∙ ap (λ (v : List Row). take (above + from) v) e-turned ∙ ap (λ (n : ℕ). take (n + from) (last ++ take until rows)) long
    ∙ take-append-add last (take until rows) from ∙ ap (λ (v : List Row). last ++ v) front in
    let is_joined : joined ≡ last ++ (first ++ others) = e-joined ∙ ap (λ (v : List Row). v ++ others) is_cut ∙ append_assoc last first others in
    e-after ∙ ap (λ (v : List Row). drop above v ++ take above v) is_joined
    ∙ ap (λ (n : ℕ). drop n (last ++ (first ++ others)) ++ take n (last ++ (first ++ others))) long
    ∙ ap (λ (v : List Row). v ++ take (length last) (last ++ (first ++ others))) (drop-append_seam last (first ++ others))
    ∙ ap (λ (v : List Row). (first ++ others) ++ v) (take-append_seam last (first ++ others))

-- no change leaves the rows
pub unchanged : (rows : List Row) (change : Change) → IsNoChange change → replaced rows change.from change.until change.rows.items ≡ rows
unchanged rows change none =
    ap (λ (n : ℕ). replaced rows n change.until change.rows.items) none.from
    ∙ ap (λ (n : ℕ). replaced rows 0 n change.rows.items) none.until
    ∙ ap (λ (v : List Row). replaced rows 0 0 v) none.rows
