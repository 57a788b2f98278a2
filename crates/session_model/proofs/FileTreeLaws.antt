-- Reading a tree of files: how it goes on and where it stops, that it comes to one end, and that this rests on the files alone that it asks for.
use Rattle.session_model.proofs.Common.{◌≡◌, ◌⊎◌, inl, inr, ℕ, true, false, List, [], ◌∷◌, ◌++◌, refl, sym, ◌∙◌, ap, subst, arith, false≢true}
use Rattle.session_model.proofs.Common.{map-append, Contains-append_left, Contains-append_right, Contains, Option, Result, Ok, Err, Files, CallPlan}
use Rattle.session_model.proofs.Common.{told_after_call, after_fetches}
use Rattle.std.proofs.Common.{map}
use Rattle.session_model.specs.Effects.{GivesFetching}
use Rattle.session_model.specs.Fetches.{AgreeOn}
use Rattle.session_model.specs.FileTrees.{FileIsRefused, FileKind, GivesByFile, GoesOn, StopsAsking, StopsAt, fetched_by, files_of}
use Rattle.session_model.specs.FileTrees.{Reading, All, Stopped, Reads, end, opened, passed, stop}
use Rattle.session_model.proofs.EffectLaws.{fetches-append}

-- ---- on the way

module _ {Said Fault : Type 0} (kind : FileKind Said Fault) (files : Files) where
  -- a name that is known is passed over
  pub goes_past : (read : List Said) (name : List ℕ) (left : List (List ℕ)) → kind.is_known read name ≡ true → GoesOn kind files read (name ∷ left) read left
  goes_past read name left known reading rest = passed known rest

  -- what a file says is read, and the names that it leads to are next
  pub goes_by : (read : List Said) (name : List ℕ) (said : Said) (left : List (List ℕ)) → kind.is_known read name ≡ false → kind.gives files read name ≡ Ok said
      → GoesOn kind files read (name ∷ left) (read ++ said ∷ []) (kind.leads_to said ++ left)
  goes_by read name said left new gives reading rest = opened new gives rest

  -- where no name is left all is read
  pub goes_to_end : (read read_after : List Said) (left : List (List ℕ)) → GoesOn kind files read left read_after []
      → Reads kind files read left (All read_after)
  goes_to_end read read_after left here = here (All read_after) end

  -- a file that is refused ends reading
  pub stops_here : (read : List Said) (name : List ℕ) (left : List (List ℕ)) (told : Fault) → kind.is_known read name ≡ false
      → kind.gives files read name ≡ Err told → StopsAt kind files read (name ∷ left) told
  stops_here read name left told new gives = record { read_before = read; name = name; stops = stop new gives }

  -- and so it does later on
  pub stops_later : (read read_after : List Said) (left left_after : List (List ℕ)) (told : Fault) → GoesOn kind files read left read_after left_after
      → StopsAt kind files read_after left_after told → StopsAt kind files read left told
  stops_later read read_after left left_after told here on =
      record { read_before = on.read_before; name = on.name; stops = here (Stopped on.read_before on.name told) on.stops }

  -- the shelf was asked for one file more, which was read
  pub asked_for_one : (first old new : Option CallPlan) (read : List Said) (said : Said) → new ≡ told_after_call old
      → old ≡ after_fetches first (files_of kind read) → new ≡ after_fetches first (files_of kind (read ++ said ∷ []))
  asked_for_one first old new read said once asked =
      let files_are : files_of kind (read ++ said ∷ []) ≡ files_of kind read ++ kind.file (kind.name said) ∷ [] =
      ap (map kind.file) (map-append kind.name read (said ∷ [])) ∙ map-append kind.file (map kind.name read) (kind.name said ∷ []) in
      once ∙ ap told_after_call asked ∙ sym (fetches-append first (files_of kind read) (kind.file (kind.name said) ∷ []))
      ∙ ap (after_fetches first) (sym files_are)

  -- it was asked for the file that is refused
  pub stops_asking_here : (read : List Said) (name : List ℕ) (left : List (List ℕ)) (old new : Option CallPlan) (told : Fault)
      → kind.is_known read name ≡ false → kind.gives files read name ≡ Err told → new ≡ told_after_call old
      → StopsAsking kind files read (name ∷ left) old new told
  stops_asking_here read name left old new told fresh gives once = (
    record { read_before = read; name = name; stops = stop fresh gives },
    λ first asked. once ∙ ap told_after_call asked ∙ sym (fetches-append first (files_of kind read) (kind.file name ∷ [])),
  )

  -- and so it was where reading went on before
  pub stops_asking_later : (read read_after : List Said) (left left_after : List (List ℕ)) (old middle new : Option CallPlan) (told : Fault)
      → GoesOn kind files read left read_after left_after
      → ((first : Option CallPlan) → old ≡ after_fetches first (files_of kind read) → middle ≡ after_fetches first (files_of kind read_after))
      → StopsAsking kind files read_after left_after middle new told → StopsAsking kind files read left old new told
  stops_asking_later read read_after left left_after old middle new told here asks (on, asked) = (
    record { read_before = on.read_before; name = on.name; stops = here (Stopped on.read_before on.name told) on.stops },
    λ first before. asked first (asks first before),
  )

  -- a file that ends reading from the root is refused
  pub file_refused : (root : List ℕ) (told : Fault) → (stops : StopsAt kind files [] (root ∷ []) told)
      → FileIsRefused kind files root (fetched_by kind (Stopped stops.read_before stops.name told)) told
  file_refused root told stops = record { read = stops.read_before; name = stops.name; stops = stops.stops; fetched_are = refl }

  -- and these files were asked for
  pub file_refused_asking : (root : List ℕ) (old new : Option CallPlan) (told : Fault) → StopsAsking kind files [] (root ∷ []) old new told
      → GivesFetching (λ fetched. FileIsRefused kind files root fetched told) old new
  file_refused_asking root old new told (stops, asked) =
      (fetched_by kind (Stopped stops.read_before stops.name told), file_refused root told stops, asked old refl)

-- ---- at the end

-- a result is one thing at most
same_Ok : {A B : Type 0} (r : Result A B) (x y : A) → r ≡ Ok x → r ≡ Ok y → x ≡ y
same_Ok r x y here there = cc

same_Err : {A B : Type 0} (r : Result A B) (x y : B) → r ≡ Err x → r ≡ Err y → x ≡ y
same_Err r x y here there = cc

Ok-Err : {A B : Type 0} (r : Result A B) (x : A) (y : B) → r ≡ Ok x → r ≡ Err y → ⊥
Ok-Err r x y here there = cc

module _ {Said Fault : Type 0} (kind : FileKind Said Fault) (files : Files) where
  -- how reading came to this
  abbrev Comes : List Said → List (List ℕ) → Reading Said Fault → Type 0
  Comes read [] reading = reading ≡ All read
  Comes read (name ∷ left) reading =
      ((kind.is_known read name ≡ true) × Reads kind files read left reading)
      ⊎ (((said : Said) × (kind.is_known read name ≡ false) × (kind.gives files read name ≡ Ok said)
      × Reads kind files (read ++ said ∷ []) (kind.leads_to said ++ left) reading)
      ⊎ ((fault : Fault) × (kind.is_known read name ≡ false) × (kind.gives files read name ≡ Err fault) × (reading ≡ Stopped read name fault)))

  comes : {read : List Said} {left : List (List ℕ)} {reading : Reading Said Fault} → Reads kind files read left reading → Comes read left reading
  comes end = refl
  comes (passed known rest) = inl (known, rest)
  comes (opened {said = said} new gives rest) = inr (inl (said, new, gives, rest))
  comes (stop {fault = fault} new gives) = inr (inr (fault, new, gives, refl))

  -- reading comes to one end
  pub one_reading : {read : List Said} {left : List (List ℕ)} {one : Reading Said Fault} (other : Reading Said Fault)
      → Reads kind files read left one → Reads kind files read left other → one ≡ other
  one_reading other end also = sym (comes also)
  one_reading other (passed known rest) also = elim (comes also) [
    | inl (knows, more) ↦ one_reading other rest more
    | inr (inl (said, new, gives, more)) ↦ absurd (false≢true (sym new ∙ known))
    | inr (inr (fault, new, gives, is)) ↦ absurd (false≢true (sym new ∙ known))
  ]
  one_reading other (opened {read = read} {name = name} {names = left} {said = said} new gives rest) also = elim (comes also) [
    | inl (knows, more) ↦ absurd (false≢true (sym new ∙ knows))
    | inr (inl (too, fresh, given, more)) ↦ one_reading other rest (subst (λ (s : Said). Reads kind files (read ++ s ∷ []) (kind.leads_to s ++ left) other)
        (same_Ok (kind.gives files read name) too said given gives) more)
    | inr (inr (fault, fresh, given, is)) ↦ absurd (Ok-Err (kind.gives files read name) said fault gives given)
  ]
  one_reading other (stop {read = read} {name = name} {fault = fault} new gives) also = elim (comes also) [
    | inl (knows, more) ↦ absurd (false≢true (sym new ∙ knows))
    | inr (inl (said, fresh, given, more)) ↦ absurd (Ok-Err (kind.gives files read name) said fault given gives)
    | inr (inr (too, fresh, given, is)) ↦ ap (λ (f : Fault). Stopped read name f) (same_Err (kind.gives files read name) fault too gives given) ∙ sym is
  ]

  -- the files of what was read, and one more
  files_of-push : (read : List Said) (said : Said) → files_of kind (read ++ said ∷ []) ≡ files_of kind read ++ kind.file (kind.name said) ∷ []
  files_of-push read said =
      ap (map kind.file) (map-append kind.name read (said ∷ [])) ∙ map-append kind.file (map kind.name read) (kind.name said ∷ [])

  -- what was read is asked for by whatever reading comes to
  asks_for_read : {read : List Said} {left : List (List ℕ)} {reading : Reading Said Fault} (file : List ℕ) → Reads kind files read left reading
      → Contains (files_of kind read) file → Contains (fetched_by kind reading) file
  asks_for_read file end among = among
  asks_for_read file (passed known rest) among = asks_for_read file rest among
  asks_for_read file (opened {read = read} {said = said} new gives rest) among = asks_for_read file rest
      (subst (λ (names : List (List ℕ)). Contains names file) (sym (files_of-push read said))
      (Contains-append_left (files_of kind read) (kind.file (kind.name said) ∷ []) file among))
  asks_for_read file (stop {read = read} {name = name} new gives) among = Contains-append_left (files_of kind read) (kind.file name ∷ []) file among

  -- reading comes to the same over files that agree on those that it asks for
  pub rests_on_fetched : GivesByFile kind → {read : List Said} {left : List (List ℕ)} {reading : Reading Said Fault} (others : Files)
      → Reads kind files read left reading → AgreeOn (fetched_by kind reading) files others → Reads kind others read left reading
  rests_on_fetched by others end agree = end
  rests_on_fetched by others (passed known rest) agree = passed known (rests_on_fetched by others rest agree)
  rests_on_fetched by others (opened {read = read} {name = name} {reading = reading} {said = said} new gives rest) agree =
      let asked = asks_for_read (kind.file (kind.name said)) rest
      (subst (λ (names : List (List ℕ)). Contains names (kind.file (kind.name said))) (sym (files_of-push read said))
      (Contains-append_right (files_of kind read) (kind.file (kind.name said) ∷ []) (kind.file (kind.name said)) (0, omega arith, refl))) in
      let here = subst (λ (n : List ℕ). Contains (fetched_by kind reading) (kind.file n)) (by.named files read name said gives) asked in
      opened new (by.same files others read name (agree (kind.file name) here) ∙ gives) (rests_on_fetched by others rest agree)
  rests_on_fetched by others (stop {read = read} {name = name} new gives) agree =
      stop new (by.same files others read name (agree (kind.file name)
      (Contains-append_right (files_of kind read) (kind.file name ∷ []) (kind.file name) (0, omega arith, refl))) ∙ gives)

  -- and so does the refusal of a file
  pub file_refused_rests : GivesByFile kind → (others : Files) (root : List ℕ) (fetched : List (List ℕ)) (told : Fault)
      → FileIsRefused kind files root fetched told → AgreeOn fetched files others → FileIsRefused kind others root fetched told
  file_refused_rests by others root fetched told refused agree = record {
    read = refused.read;
    name = refused.name;
    stops = rests_on_fetched by others refused.stops (subst (λ (names : List (List ℕ)). AgreeOn names files others) refused.fetched_are agree);
    fetched_are = refused.fetched_are;
  }
