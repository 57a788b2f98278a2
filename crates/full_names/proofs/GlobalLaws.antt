-- Global names, found, in order, and each once.
use Rattle.full_names.proofs.Common.{◌≡◌, ◌≢◌, ◌⊎◌, ℕ, suc, ◌+◌, ◌-◌, ◌<◌, ◌≤◌, Bool, false, IsTrue, List, [], ◌∷◌, ◌++◌, Some, length, get_or, take}
use Rattle.full_names.proofs.Common.{inl, inr, refl, sym, ◌∙◌, ap, subst, arith, slice_get, IsPermutation, IsSorted, IsTotalOrder, Ordering, Less}
use Rattle.full_names.proofs.Common.{Equal, Greater, nat_cmp-IsAntisymmetric, slice_cmp-IsAntisymmetric, is_lt, nat_cmp, ordering_then}
use Rattle.full_names.proofs.Common.{ordering_reverse, slice_cmp, cases_lt, nat_tests, nat_cmp_total, nat_list_cmp_total, on_total, then_total}
use Rattle.full_names.proofs.Common.{tied_itself, take_more, IsPermutation-sym, slice_get_within, get_or_from_slice_get, same_Some, bytes_eq}
use Rattle.full_names.proofs.Common.{bytes_eq-Decides, In, In-push_cases, In-append_left, In-push, In-permutation, IsSorted-pairs, In-slice_get}
use Rattle.full_names.proofs.Common.{slice_get-In, TreeElement, OwnName, RecordNames, GlobalName, globals_of, flat_at, global_texts, text_cmp}
use Rattle.full_names.proofs.Common.{EndsWith, IsFound, AreFound, AreInTextOrder, AreOnce, AreGlobalNames}
use Rattle.std.proofs.Common.{◌↔◌}
use Rattle.full_names.specs.Globals.{global_cmp, IsOwnGlobal}
use Rattle.full_names.proofs.NameForms.{then_rest}

-- The names of an element stand behind those before.
pub record AreGlobalsAdded (names : List OwnName) (element : ℕ) (before now : List GlobalName) : Type 0 where
  pub old : (name : GlobalName) → In name before → In name now
  pub from : (name : GlobalName) → In name now → In name before ⊎ IsOwnGlobal names element name
  pub all : (own : OwnName) → In own names → IsFound now own.text.now element

pub globals_none : (element : ℕ) (before : List GlobalName) → AreGlobalsAdded [] element before before
globals_none element before = record { old = λ name here. here; from = λ name here. inl here; all = λ own here. absurd here }

found_later : (before now : List GlobalName) (text : List ℕ) (element : ℕ) → ((name : GlobalName) → In name before → In name now)
    → IsFound before text element → IsFound now text element
found_later before now text element keeps one = record {
  name = one.name;
  listed = keeps one.name one.listed;
  same = one.same;
  no_later = one.no_later;
}

pub globals_more : (names : List OwnName) (k : ℕ) (own : OwnName) (element : ℕ) (before now later : List GlobalName) (name : GlobalName)
    → k < length names → own ≡ get_or names k own → later ≡ now ++ name ∷ [] → name.text.now ≡ own.text.now → name.node ≡ own.node
    → name.element ≡ element → name.length ≡ length name.text.now → AreGlobalsAdded (take k names) element before now
    → AreGlobalsAdded (take (k + 1) names) element before later
globals_more names k own element before now later name within is pushed text node element_is long so_far =
    let next : take (k + 1) names ≡ take k names ++ own ∷ [] = take_more names k own within ∙ ap (λ (o : OwnName). take k names ++ o ∷ []) (sym is) in
    let keeps : (one : GlobalName) → In one now → In one later =
    λ one here. subst (In one) (sym pushed) (In-append_left one now (name ∷ []) here) in
    subst (λ (list : List OwnName). AreGlobalsAdded list element before later) (sym next) (record {
      old = λ one here. keeps one (so_far.old one here);
      from = λ one here.
          elim (In-push_cases one now name (subst (In one) pushed here)) [
            | inl old ↦ (elim (so_far.from one old) [
              | inl first ↦ inl first
              | inr new ↦ inr (record {
                own = new.own;
                has = In-append_left new.own (take k names) (own ∷ []) new.has;
                text = new.text;
                node = new.node;
                element_is = new.element_is;
                long = new.long;
              })
            ])
            | inr this ↦ inr (subst (IsOwnGlobal (take k names ++ own ∷ []) element) this (record {
              own = own;
              has = In-push (take k names) own;
              text = sym text;
              node = sym node;
              element_is = element_is;
              long = long;
            }))
          ];
      all = λ one here.
          elim (In-push_cases one (take k names) own here) [
            | inl old ↦ found_later now later one.text.now element keeps (so_far.all one old)
            | inr this ↦ record {
              name = name;
              listed = subst (In name) (sym pushed) (In-push now name);
              same = text ∙ ap (λ (o : OwnName). o.text.now) this;
              no_later = omega (arith, element_is);
            }
          ];
    })

pub found_none : (flats : List TreeElement) (records : List RecordNames) (found : List GlobalName) → found ≡ [] → AreFound flats records [] found
found_none flats records found none = record {
  from = λ name here. absurd (subst (In name) none here);
  all = λ first here. absurd here;
}

-- the names of one more element
pub found_more : (flats : List TreeElement) (records : List RecordNames) (firsts : List ℕ) (k : ℕ) (before now : List GlobalName) (names : List OwnName)
    → k < length firsts → get_or firsts k 0 < length flats → names ≡ globals_of records (flat_at flats (get_or firsts k 0)).cell
    → AreFound flats records (take k firsts) before → AreGlobalsAdded names (get_or firsts k 0) before now
    → AreFound flats records (take (k + 1) firsts) now
found_more flats records firsts k before now names within inside are so_far added =
    let first = get_or firsts k 0 in
    let next : take (k + 1) firsts ≡ take k firsts ++ first ∷ [] = take_more firsts k 0 within in
    subst (λ (list : List ℕ). AreFound flats records list now) (sym next) (record {
      from = λ name here.
          elim (added.from name here) [
            | inl old ↦ so_far.from name old
            | inr new ↦ record {
              within = subst (λ (n : ℕ). n < length flats) (sym new.element_is) inside;
              own = new.own;
              has = subst (λ (n : ℕ). In new.own (globals_of records (flat_at flats n).cell)) (sym new.element_is) (subst (In new.own) are new.has);
              text = new.text;
              node = new.node;
              long = new.long;
            }
          ];
      all = λ number listed own here.
          elim (In-push_cases number (take k firsts) first listed) [
            | inl old ↦ found_later before now own.text.now number added.old (so_far.all number old own here)
            | inr this ↦ subst (IsFound now own.text.now) this
                (added.all own (subst (In own) (sym are) (subst (λ (n : ℕ). In own (globals_of records (flat_at flats n).cell)) (sym this) here)))
          ];
    })

-- in another order the same names are found
pub found_moved : (flats : List TreeElement) (records : List RecordNames) (firsts : List ℕ) (found sorted : List GlobalName) → IsPermutation found sorted
    → AreFound flats records firsts found → AreFound flats records firsts sorted
found_moved flats records firsts found sorted moved are = record {
  from = λ name here. are.from name (In-permutation name sorted found (IsPermutation-sym found sorted moved) here);
  all = λ first listed own here.
      found_later found sorted own.text.now first (λ name h. In-permutation name found sorted moved h) (are.all first listed own here);
}

-- what stands last in a list
pub last_split : {X : Type 0} (xs : List X) (x : X) → slice_get xs (length xs - 1) ≡ Some x → (front : List X) × (xs ≡ front ++ x ∷ [])
last_split [] x at = cc
last_split (y ∷ []) x at = ([], ap (λ (z : _). z ∷ []) (same_Some y x at))
last_split {X} (y ∷ z ∷ xs) x at =
    let later : length (y ∷ z ∷ xs) - 1 ≡ suc (length (z ∷ xs) - 1) = omega arith in
    let rest = last_split (z ∷ xs) x (sym (ap (slice_get (y ∷ z ∷ xs)) later) ∙ at) in
    (y ∷ rest.0, ap (λ (l : List X). y ∷ l) rest.1)

pub last_at : {X : Type 0} (front : List X) (x : X) → slice_get (front ++ x ∷ []) (length (front ++ x ∷ []) - 1) ≡ Some x
last_at [] x = refl
last_at (y ∷ []) x = refl
last_at (y ∷ z ∷ front) x =
    let list = z ∷ front ++ x ∷ [] in
    let later : length (y ∷ list) - 1 ≡ suc (length list - 1) = omega arith in
    ap (slice_get (y ∷ list)) later ∙ last_at (z ∷ front) x

pub text_cmp_total : IsTotalOrder text_cmp
text_cmp_total = then_total (on_total (λ (text : List ℕ). length text) nat_cmp_total) nat_list_cmp_total

-- texts that tie are one
pub text_cmp_exact : (a b : List ℕ) → text_cmp a b ≡ Equal → a ≡ b
text_cmp_exact a b tied = slice_cmp-IsAntisymmetric nat_cmp-IsAntisymmetric a b (then_rest (nat_cmp (length a) (length b)) (slice_cmp nat_cmp a b) tied)

global_cmp_total : IsTotalOrder global_cmp
global_cmp_total = then_total (on_total (λ (n : GlobalName). n.length) nat_cmp_total)
    (then_total (on_total (λ (n : GlobalName). n.text.now) nat_list_cmp_total)
    (then_total (on_total (λ (n : GlobalName). n.element) nat_cmp_total) (on_total (λ (n : GlobalName). n.node) nat_cmp_total)))

then_not_less : (a b c : Ordering) → is_lt (ordering_then a (ordering_then b c)) ≡ false → is_lt (ordering_then a b) ≡ false
then_not_less Less b c h = h
then_not_less Equal Less c h = h
then_not_less Equal Equal c h = refl
then_not_less Equal Greater c h = refl
then_not_less Greater b c h = refl

then_equal_rest : (a b c : Ordering) → is_lt (ordering_then a (ordering_then b c)) ≡ false → a ≡ Equal → b ≡ Equal → is_lt c ≡ false
then_equal_rest Less b c h e f = cc
then_equal_rest Equal Less c h e f = cc
then_equal_rest Equal Equal c h e f = h
then_equal_rest Equal Greater c h e f = cc
then_equal_rest Greater b c h e f = cc

not_less_first : (m n : ℕ) (rest : Ordering) → is_lt (ordering_then (nat_cmp n m) rest) ≡ false → m ≤ n
not_less_first m n rest h = grind (arith, nat_tests)

-- what is not less the other way round, and not equal, is less
pub less_from_reverse : (there back : Ordering) → there ≡ ordering_reverse back → is_lt back ≡ false → (back ≡ Equal → ⊥) → there ≡ Less
less_from_reverse there Less e h differ = cc
less_from_reverse there Equal e h differ = absurd (differ refl)
less_from_reverse there Greater e h differ = e

-- Of two names in order, one text more stands behind, and a text again comes from an element no earlier.
module _ (a b : GlobalName) (ordered : is_lt (global_cmp b a) ≡ false) (long_a : a.length ≡ length a.text.now) (long_b : b.length ≡ length b.text.now) where
  lengths : nat_cmp b.length a.length ≡ nat_cmp (length b.text.now) (length a.text.now)
  lengths = rw (long_a, long_b) refl

  no_earlier_text : is_lt (text_cmp b.text.now a.text.now) ≡ false
  no_earlier_text =
      ap (λ (o : Ordering). is_lt (ordering_then o (slice_cmp nat_cmp b.text.now a.text.now))) (sym lengths)
      ∙ then_not_less (nat_cmp b.length a.length) (slice_cmp nat_cmp b.text.now a.text.now)
      (ordering_then (nat_cmp b.element a.element) (nat_cmp b.node a.node)) ordered

  pub next_text : a.text.now ≢ b.text.now → text_cmp a.text.now b.text.now ≡ Less
  next_text differ = less_from_reverse (text_cmp a.text.now b.text.now) (text_cmp b.text.now a.text.now)
      (text_cmp_total.antisymm a.text.now b.text.now) no_earlier_text (λ tied. differ (sym (text_cmp_exact b.text.now a.text.now tied)))

  pub no_earlier_element : a.text.now ≡ b.text.now → a.element ≤ b.element
  no_earlier_element same =
      let first : nat_cmp b.length a.length ≡ Equal = lengths ∙ ap (λ (t : List ℕ). nat_cmp (length b.text.now) (length t)) same
      ∙ tied_itself nat_cmp_total (length b.text.now) in
      let second : slice_cmp nat_cmp b.text.now a.text.now ≡ Equal = ap (slice_cmp nat_cmp b.text.now) same ∙ tied_itself nat_list_cmp_total b.text.now in
      not_less_first a.element b.element (nat_cmp b.node a.node)
      (then_equal_rest (nat_cmp b.length a.length) (slice_cmp nat_cmp b.text.now a.text.now)
      (ordering_then (nat_cmp b.element a.element) (nat_cmp b.node a.node)) ordered first second)

-- one text more in order
text_order_push : (names : List GlobalName) (name : GlobalName) → AreInTextOrder (global_texts names)
    → ((front : List GlobalName) (last : GlobalName) → names ≡ front ++ last ∷ [] → text_cmp last.text.now name.text.now ≡ Less)
    → AreInTextOrder (global_texts (names ++ name ∷ []))
text_order_push [] name ordered next = tt
text_order_push (a ∷ []) name ordered next = (next [] a refl, tt)
text_order_push (a ∷ b ∷ names) name ordered next = (
  ordered.0,
  text_order_push (b ∷ names) name ordered.1 (λ front last is. next (a ∷ front) last (ap (λ (l : List GlobalName). a ∷ l) is)),
)

-- A name stands at one of the first so many places.
pub record StandsBelow (found : List GlobalName) (end : ℕ) (name : GlobalName) : Type 0 where
  pub place : ℕ
  pub below : place < end
  pub at : slice_get found place ≡ Some name

-- Of the first so many names the first with each text.
pub record AreOnceBelow (found : List GlobalName) (end : ℕ) (names : List GlobalName) : Type 0 where
  pub from : (name : GlobalName) → In name names → StandsBelow found end name
  pub all : (place : ℕ) (name : GlobalName) → place < end → slice_get found place ≡ Some name → IsFound names name.text.now name.element
  pub in_order : AreInTextOrder (global_texts names)

pub once_none : (found names : List GlobalName) → names ≡ [] → AreOnceBelow found 0 names
once_none found names none = record {
  from = λ name here. absurd (subst (In name) none here);
  all = λ place name below. absurd (omega arith);
  in_order = subst (λ (list : List GlobalName). AreInTextOrder (global_texts list)) (sym none) tt;
}

module _ (found : List GlobalName) (in_order : IsSorted global_cmp found) (long : (name : GlobalName) → In name found → name.length ≡ length name.text.now)
    (k : ℕ) (name : GlobalName) (here : slice_get found k ≡ Some name) (names : List GlobalName) (so_far : AreOnceBelow found k names) where
  -- a name from before stands no later in the order
  older : (old : GlobalName) → In old names → is_lt (global_cmp name old) ≡ false
  older old listed =
      let stands = so_far.from old listed in
      let pair = IsSorted-pairs global_cmp global_cmp_total found in_order stands.place k name stands.below (slice_get_within found k name here) in
      let first = get_or_from_slice_get found stands.place old name stands.at in
      let second = get_or_from_slice_get found k name name here in
      ap (λ (o : GlobalName). is_lt (global_cmp o old)) (sym second)
      ∙ ap (λ (o : GlobalName). is_lt (global_cmp (get_or found k name) o)) (sym first) ∙ pair

  long_of : (old : GlobalName) → In old names → old.length ≡ length old.text.now
  long_of old listed = let stands = so_far.from old listed in long old (In-slice_get found stands.place old stands.at)

  later_below : (old : GlobalName) → In old names → StandsBelow found (k + 1) old
  later_below old listed =
      let stands = so_far.from old listed in
      record { place = stands.place; below = let less = stands.below in omega arith; at = stands.at }

  -- the name at a place is that of the loop, or from before
  this_or_before : (names_now : List GlobalName) (keeps : (one : GlobalName) → In one names → In one names_now) → IsFound names_now name.text.now name.element
      → (place : ℕ) (one : GlobalName) → place < k + 1 → slice_get found place ≡ Some one → IsFound names_now one.text.now one.element
  this_or_before names_now keeps this place one below at =
      elim (cases_lt place k) [
        | inl before ↦ found_later names names_now one.text.now one.element keeps (so_far.all place one before at)
        | inr not_before ↦ (let same : place ≡ k = omega arith in
            let is : name ≡ one = same_Some name one (sym here ∙ ap (slice_get found) (sym same) ∙ at) in
            subst (λ (n : GlobalName). IsFound names_now n.text.now n.element) is this)
      ]

  -- the text is there already
  pub once_again : EndsWith names name.text.now → AreOnceBelow found (k + 1) names
  once_again ends =
      let listed : In ends.last names = subst (In ends.last) (sym ends.is) (In-push ends.front ends.last) in
      record {
        from = later_below;
        all = this_or_before names (λ one h. h) (record {
          name = ends.last;
          listed = listed;
          same = ends.same;
          no_later = no_earlier_element ends.last name (older ends.last listed) (long_of ends.last listed) (long name
              (In-slice_get found k name here)) ends.same;
        });
        in_order = so_far.in_order;
      }

  -- the text is a new one
  pub once_new : (EndsWith names name.text.now → ⊥) → (now : List GlobalName) → now ≡ names ++ name ∷ [] → AreOnceBelow found (k + 1) now
  once_new differs now pushed =
      subst (AreOnceBelow found (k + 1)) (sym pushed) (record {
        from = λ one listed.
            elim (In-push_cases one names name listed) [
              | inl old ↦ later_below one old
              | inr this ↦ record { place = k; below = omega arith; at = here ∙ ap Some this }
            ];
        all = this_or_before (names ++ name ∷ []) (λ one h. In-append_left one names (name ∷ []) h)
            (record { name = name; listed = In-push names name; same = refl; no_later = omega arith });
        in_order = text_order_push names name so_far.in_order (λ front last is.
            let listed : In last names = subst (In last) (sym is) (In-push front last) in
            next_text last name (older last listed) (long_of last listed) (long name (In-slice_get found k name here))
            (λ same. differs (record { front = front; last = last; is = is; same = same })));
      })

pub once_all : (found : List GlobalName) (end : ℕ) (names : List GlobalName) → length found ≤ end → AreOnceBelow found end names → AreOnce found names
once_all found end names past so_far = record {
  within = λ name listed. let stands = so_far.from name listed in In-slice_get found stands.place name stands.at;
  all = λ name listed.
      let at = slice_get-In name found listed in
      let within = slice_get_within found at.0 name at.1 in
      so_far.all at.0 name (omega arith) at.1;
  in_order = so_far.in_order;
}

pub found_once : (flats : List TreeElement) (records : List RecordNames) (firsts : List ℕ) (found names : List GlobalName)
    → AreFound flats records firsts found → AreOnce found names → AreGlobalNames flats records firsts names
found_once flats records firsts found names are once = record {
  are = record {
    from = λ name listed. are.from name (once.within name listed);
    all = λ first listed own has.
        let one = are.all first listed own has in
        let kept = once.all one.name one.listed in
        record {
          name = kept.name;
          listed = kept.listed;
          same = kept.same ∙ one.same;
          no_later = let a = kept.no_later in let b = one.no_later in omega arith;
        };
  };
  in_order = once.in_order;
}

-- the last of a list has a text exactly where the texts are found equal
pub last_tested : (names : List GlobalName) (last : GlobalName) (text : List ℕ) (told : Bool) → Some last ≡ slice_get names (length names - 1)
    → told ≡ bytes_eq last.text.now text → IsTrue told ↔ EndsWith names text
last_tested names last text told at tested =
    let decides = bytes_eq-Decides last.text.now text in (
      λ t. let split = last_split names last (sym at) in
          record { front = split.0; last = last; is = split.1; same = decides.0 (sym tested ∙ t) },
      λ ends.
          let this : last ≡ ends.last = same_Some last ends.last
          (at ∙ ap (λ (l : List GlobalName). slice_get l (length l - 1)) ends.is ∙ last_at ends.front ends.last) in
          tested ∙ decides.1 (ap (λ (n : GlobalName). n.text.now) this ∙ ends.same),
    )
