use Rattle.ext_cache.proofs.Common.{◌≡◌, ◌++◌, ◌∷◌, [], List, sym, subst, Undo, Records, IsLogOf}
use Rattle.ext_cache.proofs.UndoingLaws.{HasLast, last_of, last_there, undone_last}
use Rattle.ext_cache.proofs.caches.Cache.roll_back.Goals as goal

-- what the last note of a log says, where it is taken off
taken : (before records : Records) (log rest : List Undo) (undo : Undo) → log ≡ rest ++ undo ∷ [] → IsLogOf before log records
    → HasLast before rest undo records
taken before records log rest undo is tells = last_of before records rest undo (subst (λ (l : List Undo). IsLogOf before l records) is tells)

pub undo-requires : goal.undo-requires
undo-requires c =
    let before = c.requires.0 in
    let log = c.loop-undo.log.items in
    let rest = c.pop.new.self.items in
    last_there before c.loop-undo.self rest c.in-Some.undo
    (taken before c.loop-undo.self log rest c.in-Some.undo c.in-Some.ensures.items (c.loop-undo.invariant before c.requires.1))

pub loop-undo-preserved : goal.loop-undo-preserved
loop-undo-preserved c before tells =
    let log = c.loop-undo.log.items in
    let rest = c.pop.new.self.items in
    subst (λ (r : Records). IsLogOf before rest r) (sym c.undo.ensures)
    (undone_last before c.loop-undo.self rest c.in-Some.undo
    (taken before c.loop-undo.self log rest c.in-Some.undo c.in-Some.ensures.items (c.loop-undo.invariant before tells)))
