use Rattle.full_names.proofs.Common.{List, sym, subst, ap, ◌∙◌, In, In-slice_get, GlobalName, texts_of, global_texts, slice_get}
use Rattle.full_names.proofs.QueryLaws.{reached_known, record_within, globals_read, locals_read, lacks_global}
use Rattle.full_names.proofs.QueryLaws.{lacks_local, lacks_of_all, local_spot, global_spot}
use Rattle.full_names.proofs.names.FullNames.spot.Goals as goal

pub index-own-requires : goal.index-own-requires
index-own-requires c =
    let known = reached_known c.args.self.now c.requires.names c.args.cell c.requires.reached in
    record_within c.args.self.now c.requires.names c.args.cell known

pub place_of-requires : goal.place_of-requires
place_of-requires c =
    let known = reached_known c.args.self.now c.requires.names c.args.cell c.requires.reached in
    (globals_read c.args.self.now c.requires.names c.args.cell known
    c.index-own.result.now c.index-own.ensures c.deref.result.now c.deref.ensures.value).in_order

pub place_of-requires-else-is_global_name : goal.place_of-requires-else-is_global_name
place_of-requires-else-is_global_name c =
    let known = reached_known c.args.self.now c.requires.names c.args.cell c.requires.reached in
    let slice = c.deref-else-is_global_name in
    (locals_read c.args.self.now c.requires.names c.args.cell known
    c.index-own.result.now c.index-own.ensures slice.result.now slice.ensures.value).in_order

pub returns-in_err-place_of-clause-none : goal.returns-in_err-place_of-clause-none
returns-in_err-place_of-clause-none c =
    let known = reached_known c.args.self.now c.requires.names c.args.cell c.requires.reached in
    let marked = sym c.is_global_name.ensures ∙ c.if-is_global_name.true in
    rw c.from_residual.ensures (lacks_global c.args.self.now c.requires.names c.args.cell known
    c.index-own.result.now c.index-own.ensures c.args.name.now c.deref.result.now c.deref.ensures.value marked c.in_err-place_of.ensures.none)

pub returns-in_err-place-clause-none : goal.returns-in_err-place-clause-none
returns-in_err-place-clause-none c =
    let known = reached_known c.args.self.now c.requires.names c.args.cell c.requires.reached in
    let marked = sym c.is_global_name.ensures ∙ c.if-is_global_name.true in
    let none = subst (λ (list : List GlobalName). In c.args.name.now (global_texts list) → ⊥) c.deref-then-is_global_name.ensures.value
    c.in_err-place.ensures.none in
    rw c.from_residual-in_err-place.ensures (lacks_of_all c.args.self.now c.requires.names c.args.cell known c.args.name.now marked none)

pub returns-in_err-place-2-clause-none : goal.returns-in_err-place-2-clause-none
returns-in_err-place-2-clause-none c =
    let known = reached_known c.args.self.now c.requires.names c.args.cell c.requires.reached in
    let local = sym c.is_global_name.ensures ∙ c.if-is_global_name.false in
    let slice = c.deref-else-is_global_name in
    rw c.from_residual-in_err-place-2.ensures (lacks_local c.args.self.now c.requires.names c.args.cell known
    c.index-own.result.now c.index-own.ensures c.args.name.now slice.result.now slice.ensures.value local c.in_err-place-2.ensures.none)

pub returns-in_ok-place-clause-some : goal.returns-in_ok-place-clause-some
returns-in_ok-place-clause-some c =
    let known = reached_known c.args.self.now c.requires.names c.args.cell c.requires.reached in
    let marked = sym c.is_global_name.ensures ∙ c.if-is_global_name.true in
    let here = In-slice_get (texts_of c.deref.result.now) c.in_ok-place_of.field-0 c.args.name.now c.in_ok-place_of.ensures.some in
    global_spot c.args.self.now c.requires.names c.args.cell known
    c.index-own.result.now c.index-own.ensures c.args.name.now c.deref.result.now c.deref.ensures.value marked here c.in_ok-place.place
    (ap (λ (list : List GlobalName). slice_get (global_texts list) c.in_ok-place.place) (sym c.deref-then-is_global_name.ensures.value)
    ∙ c.in_ok-place.ensures.some)

pub returns-in_ok-place-2-clause-some : goal.returns-in_ok-place-2-clause-some
returns-in_ok-place-2-clause-some c =
    let known = reached_known c.args.self.now c.requires.names c.args.cell c.requires.reached in
    let local = sym c.is_global_name.ensures ∙ c.if-is_global_name.false in
    let slice = c.deref-else-is_global_name in
    local_spot c.args.self.now c.requires.names c.args.cell known
    c.index-own.result.now c.index-own.ensures c.args.name.now slice.result.now slice.ensures.value local c.in_ok-place-2.place
    c.in_ok-place-2.ensures.some
