-- Lemmas on paths, over the definitions alone.
use Rattle.switch_net.proofs.Common.{◌≡◌, ℕ, ◌<◌, ◌≤◌, List, [], ◌∷◌, ◌⊎◌, inl, inr, refl, sym, ◌∙◌, ap, subst, arith, cases_lt, cases_eq, Level}
use Rattle.switch_net.proofs.Common.{Network, Hop, IsPath, IsDefinite, IsBlocked, DefiniteTo, strength, end_of}
use Rattle.std.proofs.Common.{◌++◌}
use Rattle.switch_net.specs.Path.{IsPrefix, nodes_of}
use Rattle.finite_sets.specs.Lists.{In, Distinct}
use Rattle.switch_net.specs.Laws.{HasSimplePath, EachHasSimplePath}

module _ (net : Network) (s : List Level) (root : ℕ) where
  drop_path : (rest q : List Hop) → IsPath net s root (rest ++ q) → IsPath net s root q
  drop_path [] q i = i
  drop_path (h ∷ rest) q i = drop_path rest q i.0

  drop_definite : (rest q : List Hop) → IsDefinite s (rest ++ q) → IsDefinite s q
  drop_definite [] q i = i
  drop_definite (h ∷ rest) q i = drop_definite rest q i.0

  drop_no_repeat : (rest q : List Hop) → Distinct (nodes_of root (rest ++ q)) → Distinct (nodes_of root q)
  drop_no_repeat [] q i = i
  drop_no_repeat (h ∷ rest) q i = drop_no_repeat rest q i.1

  drop_strength : (rest q : List Hop) → strength net root (rest ++ q) ≤ strength net root q
  drop_strength [] q = omega arith
  drop_strength (h ∷ rest) q = omega (arith, drop_strength rest q)

  assoc : (a b q : List Hop) → a ++ (b ++ q) ≡ (a ++ b) ++ q
  assoc [] b q = refl
  assoc (x ∷ a) b q = ap (λ l. x ∷ l) (assoc a b q)

  pub drop_unblocked : (rest q : List Hop) → ¬ (IsBlocked net s root (rest ++ q)) → ¬ (IsBlocked net s root q)
  drop_unblocked rest q u b =
      u (record {
        prefix = b.prefix;
        is_prefix = (rest ++ b.is_prefix.0, sym (assoc rest b.is_prefix.0 b.prefix) ∙ ap (λ l. rest ++ l) b.is_prefix.1);
        stronger = b.stronger;
        blocker = b.blocker;
        is_stronger = b.is_stronger;
      })

  -- a prefix of a longer path is the path, or a prefix of the shorter one
  prefix_cases : (q p : List Hop) (h : Hop) → IsPrefix q (h ∷ p) → (q ≡ h ∷ p) ⊎ IsPrefix q p
  prefix_cases q p h ([], e) = inl e
  prefix_cases q p h (x ∷ rest, e) = let f : rest ++ q ≡ p = cc in inr (rest, f)

  prefix_nil : (q : List Hop) → IsPrefix q [] → q ≡ []
  prefix_nil q ([], e) = e
  prefix_nil q (x ∷ rest, e) = absurd cc

  -- the path is as strong as each definite path to its end
  unfoldable pub NotOvercome : List Hop → Type 0
  NotOvercome p = (k : ℕ) → DefiniteTo net s (end_of root p) k → k ≤ strength net root p

  pub drop_not_overcome : (rest q : List Hop) → ¬ (IsBlocked net s root (rest ++ q)) → NotOvercome q
  unfolding NotOvercome
  drop_not_overcome rest q u k d = elim (cases_lt (strength net root q) k) [
    | inl lt ↦ absurd (u (record { prefix = q; is_prefix = (rest, refl); stronger = k; blocker = d; is_stronger = lt }))
    | inr le ↦ le
  ]

  -- a hop more stays unblocked where nothing overcomes the whole
  pub unblocked-hop : (h : Hop) (p : List Hop) → ¬ (IsBlocked net s root p) → NotOvercome (h ∷ p) → ¬ (IsBlocked net s root (h ∷ p))
  unfolding NotOvercome
  unblocked-hop h p u n b = elim (prefix_cases b.prefix p h b.is_prefix) [
    | inl e ↦ (let le = n b.stronger (let P : List Hop → Type 0 = λ q. DefiniteTo net s (end_of root q) b.stronger in subst P e b.blocker) in
        let f : strength net root b.prefix ≡ strength net root (h ∷ p) = ap (strength net root) e in
        let lt : strength net root b.prefix < b.stronger = b.is_stronger in absurd (omega arith))
    | inr q ↦ u (record { prefix = b.prefix; is_prefix = q; stronger = b.stronger; blocker = b.blocker; is_stronger = b.is_stronger })
  ]

  -- a root that nothing overcomes is unblocked
  pub unblocked-root : NotOvercome [] → ¬ (IsBlocked net s root [])
  unfolding NotOvercome
  unblocked-root n b =
      let e = prefix_nil b.prefix b.is_prefix in
      let le = n b.stronger (let P : List Hop → Type 0 = λ q. DefiniteTo net s (end_of root q) b.stronger in subst P e b.blocker) in
      let f : strength net root b.prefix ≡ strength net root [] = ap (strength net root) e in
      let lt : strength net root b.prefix < b.stronger = b.is_stronger in omega arith

  -- a prefix that ends at a node of the path
  prefix_at : (v : ℕ) (p : List Hop) → In v (nodes_of root p) → (q : List Hop) × IsPrefix q p × (end_of root q ≡ v)
  prefix_at v [] (inl e) = ([], ([], refl), e)
  prefix_at v [] (inr e) = absurd e
  prefix_at v (h ∷ p) (inl e) = (h ∷ p, ([], refl), e)
  prefix_at v (h ∷ p) (inr m) = let r = prefix_at v p m in (r.0, (h ∷ r.1.0, ap (λ l. h ∷ l) r.1.1), r.2)

member_cases : (v : ℕ) (xs : List ℕ) → In v xs ⊎ (¬ (In v xs))
member_cases v [] = inr (λ e. e)
member_cases v (x ∷ xs) = elim (cases_eq x v) [
  | inl e ↦ inl (inl e)
  | inr ne ↦ elim (member_cases v xs) [ inl m ↦ inl (inr m) | inr absent ↦ inr (λ m. elim m [ inl e ↦ ne e | inr r ↦ absent r ]) ]
]

-- a hop more on a simple path
hop_more : (net : Network) (s : List Level) (root : ℕ) (h : Hop) (p : List Hop) → IsPath net s root (h ∷ p) → (r : HasSimplePath net s root p) →
    In h.to (nodes_of root r.simple) ⊎ (¬ (In h.to (nodes_of root r.simple))) → HasSimplePath net s root (h ∷ p)
unfolding NotOvercome
hop_more net s root h p i r (inl m) =
    let q = prefix_at net s root h.to r.simple m in
    let qe = q.1.1 in
    record {
      simple = q.0;
      is_path = drop_path net s root q.1.0 q.0 (rw qe r.is_path);
      no_repeat = drop_no_repeat net s root q.1.0 q.0 (rw qe r.no_repeat);
      same_end = q.2;
      as_strong = let a = drop_strength net s root q.1.0 q.0 in let b = rw qe at a in omega (arith, r.as_strong);
      stays_definite = λ d. drop_definite net s root q.1.0 q.0 (rw qe (r.stays_definite d.0));
      stays_unblocked = λ u. drop_unblocked net s root q.1.0 q.0 (rw qe (r.stays_unblocked (drop_unblocked net s root (h ∷ []) p u)));
    }
hop_more net s root h p i r (inr absent) =
    record {
      simple = h ∷ r.simple;
      is_path = (r.is_path, i.1, rw r.same_end i.2, i.3);
      no_repeat = (absent, r.no_repeat);
      same_end = refl;
      as_strong = omega (arith, r.as_strong);
      stays_definite = λ d. (r.stays_definite d.0, d.1);
      stays_unblocked = λ u. unblocked-hop net s root h r.simple (r.stays_unblocked (drop_unblocked net s root (h ∷ []) p u))
          (λ k d. let whole = drop_not_overcome net s root [] (h ∷ p) u k d in omega (arith, r.as_strong, whole));
    }

pub each_has_simple_path : EachHasSimplePath
each_has_simple_path net s root [] i = record {
  simple = [];
  is_path = i;
  no_repeat = (λ e. e, tt);
  same_end = refl;
  as_strong = omega arith;
  stays_definite
      = λ d. d;
  stays_unblocked = λ u. u;
}
each_has_simple_path net s root (h ∷ p) i =
    let r = each_has_simple_path net s root p i.0 in
    hop_more net s root h p i r (member_cases h.to (nodes_of root r.simple))
