use Rattle.full_names.proofs.Common.{List, Vec, Global, subst, In, GlobalName, AreOnce, AreGlobalNames}
use Rattle.std.proofs.lemmas.Result.{IfOk-weaker}
use Rattle.full_names.proofs.GlobalLaws.{found_once}
use Rattle.full_names.proofs.globals.global_names.Goals as goal

pub each_once-requires-clause-long : goal.each_once-requires-clause-long
each_once-requires-clause-long c =
    λ name here. (c.in_ok-found.ensures.found.from name (subst (λ (l : List GlobalName). In name l) c.deref.ensures.value here)).long

pub returns : goal.returns
returns c =
    let flats = c.args.tree.now.elements in
    IfOk-weaker c.each_once.result (λ (names : Vec GlobalName Global). AreOnce c.deref.result.now names.items)
    (λ (names : Vec GlobalName Global). AreGlobalNames flats c.args.records.now c.args.firsts.now names.items)
    (λ names once. found_once flats c.args.records.now c.args.firsts.now c.in_ok-found.found.items names.items c.in_ok-found.ensures.found
    (subst (λ (l : List GlobalName). AreOnce l names.items) c.deref.ensures.value once)) c.each_once.ensures
