use Rattle.fault_grade.proofs.Common.{◌≡◌, ℕ, ◌<◌, Bool, true, false, List, length, get_or, take, arith, ap, refl, sym, ◌∙◌, list_any, zip, Seen}
use Rattle.fault_grade.proofs.Common.{states_of, is_shown_apart}
use Rattle.std.proofs.lemmas.List.{length_push, take_all}
use Rattle.std.proofs.lemmas.List.Folds.{list_any_at, list_any_more}
use Rattle.std.proofs.lemmas.Slice.Zip.{get_or-zip, length-zip, zip_end, zip_turn}
use Rattle.fault_grade.proofs.comparing.are_apart.Goals as goal

-- the test at a place of the pairs
test_at : {A B : Type 0} (test : A × B → Bool) (ks : List A) (vs : List B) (i : ℕ) (k : A) (v : B) (b : Bool) → i < length ks → i < length vs
    → k ≡ get_or ks i k → v ≡ get_or vs i v → test (k, v) ≡ b → (i < length (zip ks vs)) × (test (get_or (zip ks vs) i (k, v)) ≡ b)
test_at {A} {B} test ks vs i k v b in_ks in_vs is_k is_v gives =
    let long = length-zip ks vs in
    let pair : A → B → A × B = λ x y. (x, y) in
    let there : get_or (zip ks vs) i (k, v) ≡ (k, v) =
    get_or-zip ks vs i (k, v) in_ks in_vs ∙ ap (λ (x : A). pair x (get_or vs i v)) (sym is_k) ∙ ap (pair k) (sym is_v) in
    (omega (arith, long, in_ks, in_vs), ap test there ∙ gives)

pub returns-then-is_shown_apart : goal.returns-then-is_shown_apart
returns-then-is_shown_apart c =
    let test : (List ℕ × ℕ) × Seen → Bool = λ both. is_shown_apart (states_of c.args.run.now) both.0 both.1 in
    let turn = zip_turn c.args.asked.now c.args.seen.now c.loop-named.yielded c.into_iter-named-iterator.result c.loop-named.named-iterator c.next.new.self
    c.next.result (cc) (cc) c.loop-named.yielded_by (c.in-Some.named, c.in-Some.shown) c.in-Some.is c.next.ensures.steps in
    let at = test_at test c.args.asked.now c.args.seen.now (length c.loop-named.yielded) c.in-Some.named.now c.in-Some.shown.now true turn.0 turn.1
    (turn.2 c.in-Some.named.now) (turn.3 c.in-Some.shown.now) (sym c.if-is_shown_apart.ensures) in
    sym (list_any_at test (zip c.args.asked.now c.args.seen.now) (length c.loop-named.yielded) (c.in-Some.named.now, c.in-Some.shown.now) at.0 at.1)

pub loop-named-preserved : goal.loop-named-preserved
loop-named-preserved c =
    let test : (List ℕ × ℕ) × Seen → Bool = λ both. is_shown_apart (states_of c.args.run.now) both.0 both.1 in
    let pairs = zip c.args.asked.now c.args.seen.now in
    let turn = zip_turn c.args.asked.now c.args.seen.now c.loop-named.yielded c.into_iter-named-iterator.result c.loop-named.named-iterator c.next.new.self
    c.next.result (cc) (cc) c.loop-named.yielded_by (c.in-Some.named, c.in-Some.shown) c.in-Some.is c.next.ensures.steps in
    let at = test_at test c.args.asked.now c.args.seen.now (length c.loop-named.yielded) c.in-Some.named.now c.in-Some.shown.now false turn.0 turn.1
    (turn.2 c.in-Some.named.now) (turn.3 c.in-Some.shown.now) (sym c.if-is_shown_apart.ensures) in
    let more = list_any_more test pairs (length c.loop-named.yielded) (c.in-Some.named.now, c.in-Some.shown.now) at.0 in
    let one_more = length_push c.loop-named.yielded (c.in-Some.named, c.in-Some.shown) in
    ap (λ (n : ℕ). list_any test (take n pairs)) one_more ∙ more ∙ rw (c.loop-named.invariant, at.1) refl

pub returns : goal.returns
returns c =
    let test : (List ℕ × ℕ) × Seen → Bool = λ both. is_shown_apart (states_of c.args.run.now) both.0 both.1 in
    let pairs = zip c.args.asked.now c.args.seen.now in
    let ends = zip_end c.args.asked.now c.args.seen.now c.loop-named.yielded c.into_iter-named-iterator.result c.loop-named.named-iterator c.next.new.self
    c.next.result (cc) (cc) c.loop-named.yielded_by c.in-None.is c.next.ensures.steps in
    let long = length-zip c.args.asked.now c.args.seen.now in
    sym c.loop-named.invariant ∙ ap (list_any test) (take_all (length c.loop-named.yielded) pairs (omega (arith, ends, long)))
