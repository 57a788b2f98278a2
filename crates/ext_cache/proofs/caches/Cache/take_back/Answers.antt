use Rattle.ext_cache.proofs.Common.{◌≡◌, ◌++◌, ◌∷◌, [], List, sym, subst, ArrayExt, LentNote, Records, AreLent}
use Rattle.std.proofs.Common.{rules}
use Rattle.ext_cache.proofs.LendingLaws.{IsLast, last_back, last_lent, last_there, none_left}
use Rattle.ext_cache.proofs.caches.Cache.take_back.Goals as goal

-- what is lent, where the last record and the last note are taken off
taken : (before records : Records) (exts fewer : List ArrayExt) (notes shorter : List LentNote) (ext : ArrayExt) (note : LentNote)
    → exts ≡ fewer ++ ext ∷ [] → notes ≡ shorter ++ note ∷ [] → AreLent before exts notes records → IsLast before fewer shorter ext note records
taken before records exts fewer notes shorter ext note exts_are notes_are are =
    last_lent before records fewer shorter ext note
    (subst (λ (all : List LentNote). AreLent before (fewer ++ ext ∷ []) all records) notes_are
    (subst (λ (all : List ArrayExt). AreLent before all notes records) exts_are are))

pub put-requires : goal.put-requires
put-requires c =
    let before = c.requires.0 in
    let at = c.loop-note in
    let exts = c.pop-in-Some.new.self.items in
    let notes = c.pop.new.self.items in
    last_there before at.self exts notes c.in-Some-pop.ext c.in-Some.note
    (taken before at.self at.exts.items exts at.notes.items notes c.in-Some-pop.ext c.in-Some.note c.in-Some-pop.ensures.items c.in-Some.ensures.items
    (at.invariant before c.requires.1))

pub loop-note-preserved-in-Some-pop : goal.loop-note-preserved-in-Some-pop
loop-note-preserved-in-Some-pop c before lent =
    let at = c.loop-note in
    let exts = c.pop-in-Some.new.self.items in
    let notes = c.pop.new.self.items in
    subst (AreLent before exts notes) (sym c.put.ensures.new)
    (last_back before at.self exts notes c.in-Some-pop.ext c.in-Some.note
    (taken before at.self at.exts.items exts at.notes.items notes c.in-Some-pop.ext c.in-Some.note c.in-Some-pop.ensures.items c.in-Some.ensures.items
    (at.invariant before lent)))

pub loop-note-preserved : goal.loop-note-preserved
loop-note-preserved c before lent =
    let at = c.loop-note in
    let exts = c.pop-in-Some.new.self.items in
    let notes = c.pop.new.self.items in
    subst (AreLent before exts notes) (sym c.put.ensures.new)
    (last_back before at.self exts notes c.in-Some-pop.ext c.in-Some.note
    (taken before at.self at.exts.items exts at.notes.items notes c.in-Some-pop.ext c.in-Some.note c.in-Some-pop.ensures.items c.in-Some.ensures.items
    (at.invariant before lent)))

pub returns : goal.returns
returns c before lent =
    let none : c.loop-note.notes.items ≡ [] = search rules in
    none_left before c.loop-note.self c.loop-note.exts.items c.loop-note.notes.items none (c.loop-note.invariant before lent)
