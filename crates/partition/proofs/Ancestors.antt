-- Parents and the leaders above them.
use Rattle.std.proofs.Common.{◌≡◌, ℕ, zero, suc, ◌<◌, ◌≤◌, min, max, cond, eqb, List, inl, inr, map, length, get_or}
use Rattle.std.proofs.Common.{set, refl, sym, ◌∙◌, ap, subst, arith, length-set, get_or-set_same, get_or-set_other}
use Rattle.std.proofs.lemmas.Bool.{cases_eq}
use Rattle.std.proofs.lemmas.Bool.Decides.{nat_tests}
use Rattle.std.proofs.lemmas.List.{length-map, get_or-map, ext_get_or}
use Rattle.std.proofs.lemmas.List.FromFn.{length-range_with_len, get_or-range_with_len, get_or-map-range_with_len, length-map-range_with_len}
use Rattle.partition.specs.Leaders.{numbers_below, joined_leaders}
use Rattle.partition.specs.Parents.{PointDown, ancestor, leaders_of}

root_stays : (p : List ℕ) (steps k : ℕ) → get_or p k 0 ≡ k → ancestor p steps k ≡ k
root_stays p zero k h = refl
root_stays p (suc s) k h = ap (ancestor p s) h ∙ root_stays p s k h

one_more : (p : List ℕ) (steps k : ℕ) → ancestor p (suc steps) k ≡ get_or p (ancestor p steps k) 0
one_more p zero k = refl
one_more p (suc s) k = one_more p s (get_or p k 0)

-- in as many steps as the number counts one comes to a root
arrives : (p : List ℕ) → PointDown p → (steps k : ℕ) → k < length p → k ≤ steps → get_or p (ancestor p steps k) 0 ≡ ancestor p steps k
arrives p d zero k l h = let down = d k l in omega arith
arrives p d (suc s) k l h =
    let down = d k l in
    elim (cases_eq (get_or p k 0) k) [
      | inl e ↦ (let r = root_stays p (suc s) k e in ap (λ z. get_or p z 0) r ∙ e ∙ sym r)
      | inr other ↦ arrives p d s (get_or p k 0) (omega arith) (omega arith)
    ]

one_less : (p : List ℕ) → PointDown p → (steps k : ℕ) → k < length p → k ≤ steps → ancestor p (suc steps) k ≡ ancestor p steps k
one_less p d s k l h = one_more p s k ∙ arrives p d s k l h

enough : (p : List ℕ) → PointDown p → (steps k : ℕ) → k < length p → k ≤ steps → ancestor p steps k ≡ ancestor p k k
enough p d zero k l h = let none : 0 ≡ k = omega arith in ap (λ z. ancestor p z k) none
enough p d (suc s) k l h = elim (cases_eq k (suc s)) [
  | inl e ↦ ap (λ z. ancestor p z k) (sym e)
  | inr other ↦ one_less p d s k l (omega arith) ∙ enough p d s k l (omega arith)
]

leaders_at : (p : List ℕ) (k : ℕ) → k < length p → get_or (leaders_of p) k 0 ≡ ancestor p k k
unfolding leaders_of
leaders_at p k h = get_or-map-range_with_len (λ n. ancestor p n n) 0 (length p) k k 0 h (omega arith)

-- there is a leader for each number
pub length-leaders_of : (p : List ℕ) → length (leaders_of p) ≡ length p
unfolding leaders_of
length-leaders_of p = length-map-range_with_len (λ n. ancestor p n n) 0 (length p)

-- the leaders are each root's own number, and elsewhere the parent's leader
pub record Leads (parents leaders : List ℕ) : Type 0 where
  pub long : length leaders ≡ length parents
  pub follows : (k : ℕ) → k < length parents → get_or leaders k 0 ≡ get_or leaders (get_or parents k 0) 0
  pub roots : (k : ℕ) → k < length parents → get_or parents k 0 ≡ k → get_or leaders k 0 ≡ k

-- the roots above the numbers lead them
pub Leads-leaders_of : (p : List ℕ) → PointDown p → Leads p (leaders_of p)
Leads-leaders_of p d = record {
  long = length-leaders_of p;
  follows = λ k l.
      let down = d k l in
      leaders_at p k l ∙ sym (one_less p d k k l (omega arith)) ∙ enough p d k (get_or p k 0) (omega arith) down
      ∙ sym (leaders_at p (get_or p k 0) (omega arith));
  roots = λ k l e. leaders_at p k l ∙ root_stays p k k e;
}

same_below : (p l m : List ℕ) → PointDown p → Leads p l → Leads p m → (n k : ℕ) → k < n → k < length p → get_or l k 0 ≡ get_or m k 0
same_below p l m d L M zero k h w = absurd (omega arith)
same_below p l m d L M (suc n) k h w =
    let down = d k w in
    elim (cases_eq (get_or p k 0) k) [
      | inl e ↦ L.roots k w e ∙ sym (M.roots k w e)
      | inr other ↦ L.follows k w ∙ same_below p l m d L M n (get_or p k 0) (omega arith) (omega arith) ∙ sym (M.follows k w)
    ]

-- there is one such list
pub Leads-unique : (p l m : List ℕ) → PointDown p → Leads p l → Leads p m → l ≡ m
Leads-unique p l m d L M =
    ext_get_or 0 l m (L.long ∙ sym M.long) (λ k h. same_below p l m d L M (length p) k (omega (arith, L.long)) (omega (arith, L.long)))

-- so what leads the numbers is what the roots are
pub leaders_from_Leads : (p l : List ℕ) → PointDown p → Leads p l → leaders_of p ≡ l
leaders_from_Leads p l d L = Leads-unique p (leaders_of p) l d (Leads-leaders_of p d) L

le_below : (p l : List ℕ) → PointDown p → Leads p l → (n k : ℕ) → k < n → k < length p → get_or l k 0 ≤ k
le_below p l d L zero k h w = absurd (omega arith)
le_below p l d L (suc n) k h w =
    let down = d k w in
    elim (cases_eq (get_or p k 0) k) [
      | inl e ↦ omega (arith, L.roots k w e)
      | inr other ↦ omega (arith, L.follows k w, le_below p l d L n (get_or p k 0) (omega arith) (omega arith))
    ]

-- no leader is greater than its number
pub Leads-le : (p l : List ℕ) → PointDown p → Leads p l → (k : ℕ) → k < length p → get_or l k 0 ≤ k
Leads-le p l d L k w = le_below p l d L (suc k) k (omega arith) w

-- a number that leads itself is a root
pub Leads-root : (p l : List ℕ) → PointDown p → Leads p l → (k : ℕ) → k < length p → get_or l k 0 ≡ k → get_or p k 0 ≡ k
Leads-root p l d L k w e =
    let down = d k w in
    let up = Leads-le p l d L (get_or p k 0) (omega arith) in
    omega (arith, L.follows k w)

itself_below : (p l : List ℕ) → PointDown p → Leads p l → (n k : ℕ) → k < n → k < length p → get_or l (get_or l k 0) 0 ≡ get_or l k 0
itself_below p l d L zero k h w = absurd (omega arith)
itself_below p l d L (suc n) k h w =
    let down = d k w in
    elim (cases_eq (get_or p k 0) k) [
      | inl e ↦ ap (λ z. get_or l z 0) (L.roots k w e)
      | inr other ↦ ap (λ z. get_or l z 0) (L.follows k w) ∙ itself_below p l d L n (get_or p k 0) (omega arith) (omega arith) ∙ sym (L.follows k w)
    ]

-- a leader leads itself
pub Leads-itself : (p l : List ℕ) → PointDown p → Leads p l → (k : ℕ) → k < length p → get_or l (get_or l k 0) 0 ≡ get_or l k 0
Leads-itself p l d L k w = itself_below p l d L (suc k) k (omega arith) w

-- a parent that is not greater may be set
pub PointDown-set : (p : List ℕ) → PointDown p → (a b : ℕ) → b ≤ a → PointDown (set p a b)
PointDown-set p d a b h = λ k w.
    let long = length-set p a b in
    let in_p : k < length p = omega arith in
    elim (cases_eq k a) [
      | inl e ↦ (let P : ℕ → Type 0 = λ z. get_or (set p a b) z 0 ≤ z in
          let at_a : get_or (set p a b) a 0 ≡ b = get_or-set_same p a b 0 (omega arith) in subst P (sym e) (omega arith))
      | inr other ↦ (let same = get_or-set_other p a k b 0 other in let down = d k in_p in omega (arith, down))
    ]

-- a number gets another parent of its class, and only a root itself
pub Leads-set : (p l : List ℕ) → Leads p l → (a b : ℕ) → a < length p → get_or l b 0 ≡ get_or l a 0 → (b ≡ a → get_or p a 0 ≡ a) → Leads (set p a b) l
Leads-set p l L a b h same_class root =
    let at_a : get_or (set p a b) a 0 ≡ b = get_or-set_same p a b 0 h in
    let in_p : (k : ℕ) → k < length (set p a b) → k < length p = λ k w. omega (arith, length-set p a b) in
    record {
      long = L.long ∙ sym (length-set p a b);
      follows = λ k w. elim (cases_eq k a) [
        | inl e ↦ (let P : ℕ → Type 0 = λ z. get_or l z 0 ≡ get_or l (get_or (set p a b) z 0) 0 in
            subst P (sym e) (sym same_class ∙ ap (λ z. get_or l z 0) (sym at_a)))
        | inr other ↦ L.follows k (in_p k w) ∙ ap (λ z. get_or l z 0) (sym (get_or-set_other p a k b 0 other))
      ];
      roots = λ k w r. elim (cases_eq k a) [
        | inl e ↦ (let b_is_a : b ≡ a = sym at_a ∙ ap (λ z. get_or (set p a b) z 0) (sym e) ∙ r ∙ e in
            let P : ℕ → Type 0 = λ z. get_or l z 0 ≡ z in subst P (sym e) (L.roots a h (root b_is_a)))
        | inr other ↦ L.roots k (in_p k w) (sym (get_or-set_other p a k b 0 other) ∙ r)
      ];
    }

-- a step of a walk that halves its way
pub Leads-halve : (p l : List ℕ) → PointDown p → Leads p l → (a : ℕ) → a < length p → Leads (set p a (get_or p (get_or p a 0) 0)) l
Leads-halve p l d L a h =
    let down = d a h in
    let down_again = d (get_or p a 0) (omega arith) in
    Leads-set p l L a (get_or p (get_or p a 0) 0) h
    (sym (L.follows (get_or p a 0) (omega arith)) ∙ sym (L.follows a h))
    (λ e. omega arith)

-- and it keeps all parents from being greater
pub PointDown-halve : (p : List ℕ) → PointDown p → (a : ℕ) → a < length p → PointDown (set p a (get_or p (get_or p a 0) 0))
PointDown-halve p d a h =
    let down = d a h in
    let down_again = d (get_or p a 0) (omega arith) in
    PointDown-set p d a (get_or p (get_or p a 0) 0) (omega arith)

moved : ℕ → ℕ → ℕ → ℕ
moved x y k = cond (eqb k y) x k

moved_there : (x y : ℕ) → moved x y y ≡ x
unfolding moved
moved_there x y = grind (arith, nat_tests)

moved_stays : (x y k : ℕ) → (k ≡ y → ⊥) → moved x y k ≡ k
unfolding moved
moved_stays x y k other = grind (arith, nat_tests)

moved_target : (x y : ℕ) → moved x y x ≡ x
unfolding moved
moved_target x y = grind (arith, nat_tests)

link_by : (p l : List ℕ) → Leads p l → (x y : ℕ) → x < length p → y < length p → get_or l x 0 ≡ x → get_or l y 0 ≡ y
    → ((k : ℕ) → k < length p → get_or p k 0 < length p) → Leads (set p y x) (map (moved x y) l)
link_by p l L x y x_in y_in x_leads y_leads in_range =
    let m = map (moved x y) l in
    let at_y : get_or (set p y x) y 0 ≡ x = get_or-set_same p y x 0 y_in in
    let in_p : (k : ℕ) → k < length (set p y x) → k < length p = λ k w. omega (arith, length-set p y x) in
    let mark : (k : ℕ) → k < length p → get_or m k 0 ≡ moved x y (get_or l k 0) = λ k w. get_or-map (moved x y) l k 0 0 (omega (arith, L.long)) in
    let m_x : get_or m x 0 ≡ x = mark x x_in ∙ ap (moved x y) x_leads ∙ moved_target x y in
    let m_y : get_or m y 0 ≡ x = mark y y_in ∙ ap (moved x y) y_leads ∙ moved_there x y in
    record {
      long = length-map l (moved x y) ∙ L.long ∙ sym (length-set p y x);
      follows = λ k w. elim (cases_eq k y) [
        | inl e ↦ (let P : ℕ → Type 0 = λ z. get_or m z 0 ≡ get_or m (get_or (set p y x) z 0) 0 in
            subst P (sym e) (m_y ∙ sym m_x ∙ ap (λ z. get_or m z 0) (sym at_y)))
        | inr other ↦ mark k (in_p k w) ∙ ap (moved x y) (L.follows k (in_p k w)) ∙ sym (mark (get_or p k 0) (in_range k (in_p k w)))
            ∙ ap (λ z. get_or m z 0) (sym (get_or-set_other p y k x 0 other))
      ];
      roots = λ k w r. elim (cases_eq k y) [
        | inl e ↦ (let y_is_x : x ≡ y = sym at_y ∙ ap (λ z. get_or (set p y x) z 0) (sym e) ∙ r ∙ e in
            ap (λ z. get_or m z 0) e ∙ m_y ∙ y_is_x ∙ sym e)
        | inr other ↦ mark k (in_p k w) ∙ ap (moved x y) (L.roots k (in_p k w) (sym (get_or-set_other p y k x 0 other) ∙ r)) ∙ moved_stays x y k other
      ];
    }

-- the greater of two roots gets the lesser as its parent
pub Leads-link : (p l : List ℕ) → PointDown p → Leads p l → (x y : ℕ) → x < length p → y < length p → get_or l x 0 ≡ x → get_or l y 0 ≡ y
    → Leads (set p y x) (map (λ k. cond (eqb k y) x k) l)
unfolding moved
Leads-link p l d L x y x_in y_in x_leads y_leads = link_by p l L x y x_in y_in x_leads y_leads (λ k w. let down = d k w in omega arith)

link_of : ℕ → ℕ → List ℕ → List ℕ
link_of low high leaders = map (λ k. cond (eqb k high) low k) leaders

linked : (p leaders : List ℕ) → PointDown p → leaders_of p ≡ leaders → (x y : ℕ) → x < length p → y < length p → x ≤ y → get_or leaders x 0 ≡ x
    → get_or leaders y 0 ≡ y
    → leaders_of (set p y x) ≡ link_of x y leaders
unfolding link_of
linked p leaders d same x y x_in y_in le x_leads y_leads =
    let L : Leads p leaders = subst (λ (l : List ℕ). Leads p l) same (Leads-leaders_of p d) in
    leaders_from_Leads (set p y x) (map (λ k. cond (eqb k y) x k) leaders) (PointDown-set p d y x le) (Leads-link p leaders d L x y x_in y_in x_leads y_leads)

-- linking the two roots joins their classes
pub leaders_of-link : (p leaders : List ℕ) → PointDown p → leaders_of p ≡ leaders → (a b x y : ℕ) → a < length p → b < length p → x < length p → y < length p
    → x ≡ get_or leaders a 0 → y ≡ get_or leaders b 0
    → (x ≤ y → leaders_of (set p y x) ≡ joined_leaders leaders a b) × (y ≤ x → leaders_of (set p x y) ≡ joined_leaders leaders a b)
unfolding link_of
leaders_of-link p leaders d same a b x y a_in b_in x_in y_in x_is y_is =
    let L : Leads p leaders = subst (λ (l : List ℕ). Leads p l) same (Leads-leaders_of p d) in
    let x_leads : get_or leaders x 0 ≡ x = ap (λ z. get_or leaders z 0) x_is ∙ Leads-itself p leaders d L a a_in ∙ sym x_is in
    let y_leads : get_or leaders y 0 ≡ y = ap (λ z. get_or leaders z 0) y_is ∙ Leads-itself p leaders d L b b_in ∙ sym y_is in
    let at = (λ (u v : ℕ). map (λ k. cond (eqb k u) v k) leaders) in
    let u = get_or leaders a 0 in
    let v = get_or leaders b 0 in (
      (λ le. linked p leaders d same x y x_in y_in le x_leads y_leads
          ∙ (let high : y ≡ max u v = omega arith in let low : x ≡ min u v = omega arith in ap (λ z. at z x) high ∙ ap (at (max u v)) low)),
      (λ le. linked p leaders d same y x y_in x_in le y_leads x_leads
          ∙ (let high : x ≡ max u v = omega arith in let low : y ≡ min u v = omega arith in ap (λ z. at z y) high ∙ ap (at (max u v)) low)),
    )

-- there are n numbers below n
pub length-numbers_below : (n : ℕ) → length (numbers_below n) ≡ n
unfolding numbers_below
length-numbers_below n = length-range_with_len 0 n

-- each stands at its own place
pub get_or-numbers_below : (n k : ℕ) → k < n → get_or (numbers_below n) k 0 ≡ k
unfolding numbers_below
get_or-numbers_below n k h = get_or-range_with_len 0 n k 0 h ∙ omega arith

at_itself : (n k : ℕ) → k < length (numbers_below n) → get_or (numbers_below n) k 0 ≡ k
at_itself n k h = get_or-numbers_below n k (omega (arith, length-numbers_below n))

-- as parents they point at themselves
pub PointDown-numbers_below : (n : ℕ) → PointDown (numbers_below n)
PointDown-numbers_below n = λ k h. omega (arith, at_itself n k h)

-- where each number is its own parent it leads itself
pub leaders_of-numbers_below : (n : ℕ) → leaders_of (numbers_below n) ≡ numbers_below n
leaders_of-numbers_below n =
    leaders_from_Leads (numbers_below n) (numbers_below n) (PointDown-numbers_below n)
    (record { long = refl; follows = λ k h. ap (λ z. get_or (numbers_below n) z 0) (sym (at_itself n k h)); roots = λ k h e. e })
