-- Transistors one after the other.
use Rattle.flatten.proofs.Common.{◌≡◌, ℕ, ◌+◌, ◌<◌, List, [], ◌∷◌, ◌++◌, length, map, take, get_or, sym, ◌∙◌, ap, subst, append_assoc, flat_map}
use Rattle.flatten.proofs.Common.{flat_map-append, take_more, map_more, append-nil, NodeRec, FetRec, Element, IsFlatFet, fets_of, GivesFets}
use Rattle.circuit_model.specs.FlatFets.{fets_in, AreFlatFets}

-- one transistor more
pub flat_push : (nodes : List NodeRec) (done : List (Element × FetRec)) (flats : List FetRec) (element : Element) (fet flat : FetRec)
    → AreFlatFets nodes done flats → IsFlatFet nodes element fet flat → AreFlatFets nodes (done ++ (element, fet) ∷ []) (flats ++ flat ∷ [])
flat_push nodes [] [] element fet flat are is = (is, tt)
flat_push nodes [] (one ∷ flats) element fet flat are is = absurd are
flat_push nodes (one ∷ done) [] element fet flat are is = absurd are
flat_push nodes (one ∷ done) (other ∷ flats) element fet flat are is = (are.0, flat_push nodes done flats element fet flat are.1 is)

-- nothing is given
pub gives_none : {S : Type 0} (has : S → List ℕ → List FetRec → Type 0) (nodes : List NodeRec) (sink : S) → GivesFets has nodes [] sink sink
gives_none has nodes sink tech done flats are had =
    (flats, (subst (λ (l : List (Element × FetRec)). AreFlatFets nodes l flats) (sym (append-nil done)) are, had))

-- some are given, and then others
pub gives_both : {S : Type 0} (has : S → List ℕ → List FetRec → Type 0) (nodes : List NodeRec) (some others : List (Element × FetRec)) (old mid new : S)
    → GivesFets has nodes some old mid → GivesFets has nodes others mid new → GivesFets has nodes (some ++ others) old new
gives_both has nodes some others old mid new first second tech done flats are had =
    let a = first tech done flats are had in
    let b = second tech (done ++ some) a.0 a.1.0 a.1.1 in
    (b.0, (subst (λ (l : List (Element × FetRec)). AreFlatFets nodes l b.0) (append_assoc done some others) b.1.0, b.1.1))

-- one step of a loop along an element's transistors
pub gives_more : {S : Type 0} (has : S → List ℕ → List FetRec → Type 0) (nodes : List NodeRec) (element : Element) (fets : List FetRec) (i : ℕ) (d : FetRec)
    (old mid new : S) (flat : FetRec)
    → GivesFets has nodes (map (λ fet. (element, fet)) (take i fets)) old mid → i < length fets → IsFlatFet nodes element (get_or fets i d) flat
    → ((tech : List ℕ) (flats : List FetRec) → has mid tech flats → has new tech (flats ++ flat ∷ []))
    → GivesFets has nodes (map (λ fet. (element, fet)) (take (i + 1) fets)) old new
gives_more has nodes element fets i d old mid new flat so_far inside is given tech done flats are had =
    let f : FetRec → Element × FetRec = λ fet. (element, fet) in
    let before = so_far tech done flats are had in
    let P : List (Element × FetRec) → Type 0 = λ l. AreFlatFets nodes l (before.0 ++ flat ∷ []) in (
      before.0 ++ flat ∷ [],
      (
        subst P (append_assoc done (map f (take i fets)) (f (get_or fets i d) ∷ [])
            ∙ ap (λ (l : List (Element × FetRec)). done ++ l) (sym (map_more f fets i d inside)))
            (flat_push nodes (done ++ map f (take i fets)) before.0 element (get_or fets i d) flat before.1.0 is),
        given tech before.0 before.1.1,
      ),
    )

-- the transistors of one more element
pub fets_more : (elements : List Element) (n : ℕ) (d : Element) → n < length elements
    → fets_of (take n elements) ++ fets_in (get_or elements n d) ≡ fets_of (take (n + 1) elements)
fets_more elements n d inside =
    sym (ap (flat_map fets_in) (take_more elements n d inside) ∙ flat_map-append fets_in (take n elements) (get_or elements n d ∷ [])
    ∙ ap (λ (l : List (Element × FetRec)). flat_map fets_in (take n elements) ++ l) (append-nil (fets_in (get_or elements n d))))
