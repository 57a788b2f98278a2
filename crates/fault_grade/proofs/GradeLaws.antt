-- From what is found to grades, and that these are determined.
use Rattle.fault_grade.proofs.Common.{◌≡◌, ℕ, List, [], ◌∷◌, ◌++◌, ◌+◌, Bool, true, false, refl, sym, ap, subst, ◌∙◌, arith, append_assoc, AllZip}
use Rattle.fault_grade.proofs.Common.{Level, Zero, One, VecLine, StuckFault, LinesShow, Watched, begun_with, Graded, HasShown, IsGrade, faults_at}
use Rattle.fault_grade.proofs.Common.{faults_but}
use Rattle.std.specs.Prelude.{Option, Some, None, MatchOption, filter, not}
use Rattle.std.specs.List.{flat_map, range_with_len}
use Rattle.std.proofs.Math.Path.{fun_ext}
use Rattle.std.proofs.lemmas.Grind.{flat_map-append}
use Rattle.std.proofs.lemmas.List.{append-nil}
use Rattle.std.proofs.lemmas.List.Elements.{filter-append}
use Rattle.std.proofs.lemmas.Slice.Zip.{all_zipped_more}
use Rattle.switch_net.specs.Network.{IsSound, Network}
use Rattle.switch_net.specs.SimRecords.{AreStarts}
use Rattle.vector_files.specs.declared.files.Vectors.{Vectors}
use Rattle.fault_replay.specs.VectorRuns.Running.{HasBegun}
use Rattle.fault_replay.proofs.VectorRuns.Starts.{same_starts}
use Rattle.finite_sets.proofs.Searches.{range_one_more}
use Rattle.fault_grade.specs.declared.detecting.GoodRun.{GoodRun}
use Rattle.fault_grade.specs.steps.Comparing.{Finds, IsGoodRun}
use Rattle.fault_grade.specs.Grades.{Detects, IsDetectedAt, IsUndetected, TellsApart}

module _ (net : Network) (names : List (List ℕ × ℕ)) (budget : ℕ) (vectors : Vectors) where
  -- the run without a fault has shown what it shows
  pub good_shown : (good : GoodRun) → IsSound net → (run : IsGoodRun net names budget vectors good) (read : List (ℕ × VecLine)) → read ≡ vectors.lines
      → HasShown budget net.nodes (begun_with None net run.seen.start) read good.seen.items
  good_shown good sound run read same = record {
    sound = sound;
    same_nodes = refl;
    one_state = run.seen.starts.one_state;
    last = run.seen.last;
    shows = subst (λ (lines : List (ℕ × VecLine)). LinesShow budget (begun_with None net run.seen.start) lines run.seen.last good.seen.items) (sym same)
        run.seen.show;
  }

  -- what tells the runs apart does so from any states in which the network begins
  told_from : (fault : StuckFault) (start : List Level) → AreStarts net names start → (number : ℕ) → Detects net names budget vectors fault number
      → TellsApart budget (begun_with None net start) (begun_with (Some fault) net start) (Some fault) vectors.lines number
  told_from fault start starts number detects =
      let same = same_starts net names detects.start start detects.starts starts in
      subst (λ (from : List Level). TellsApart budget (begun_with None net from) (begun_with (Some fault) net from) (Some fault) vectors.lines number) same
      detects.tells

  -- what is found from where the network begins is the grade of the fault
  from_start : (fault : StuckFault) (start : List Level) → AreStarts net names start → (found : Option ℕ)
      → Finds budget (begun_with None net start) (begun_with (Some fault) net start) (Some fault) vectors.lines found
      → MatchOption found (IsUndetected net names budget vectors fault) (IsDetectedAt net names budget vectors fault)
  from_start fault start starts None finds = λ number detects. finds.least number (told_from fault start starts number detects)
  from_start fault start starts (Some first) finds = record {
    detects = record { start = start; starts = starts; tells = finds.tells };
    least = λ number detects. finds.least number (told_from fault start starts number detects);
  }

  pub found_grade : (fault : StuckFault) (good : GoodRun) (first : Watched) (stuck : Option StuckFault) (read : List (ℕ × VecLine)) (found : Option ℕ)
      → IsSound net → IsGoodRun net names budget vectors good → HasBegun net names (Some fault) first → stuck ≡ Some fault → read ≡ vectors.lines
      → ((from : Watched) → HasShown budget net.nodes from read good.seen.items → Finds budget from first stuck read found)
      → MatchOption found (IsUndetected net names budget vectors fault) (IsDetectedAt net names budget vectors fault)
  found_grade fault good first stuck read found sound run begun is_stuck same finds =
      let start : List Level = run.seen.start in
      let good_first : Watched = begun_with None net start in
      let begins : first ≡ begun_with (Some fault) net start =
      begun.stands ∙ ap (begun_with (Some fault) net) (same_starts net names begun.start start begun.starts run.seen.starts) in
      let here = finds good_first (good_shown good sound run read same) in
      let at = subst (λ (from : Watched). Finds budget good_first from stuck read found) begins here in
      let held = subst (λ (one : Option StuckFault). Finds budget good_first (begun_with (Some fault) net start) one read found) is_stuck at in
      let all = subst (λ (lines : List (ℕ × VecLine)). Finds budget good_first (begun_with (Some fault) net start) (Some fault) lines found) same held in
      from_start fault start run.seen.starts found all

  -- ---- one list of grades

  -- a fault has one line, or none
  same_line : (fault : StuckFault) (a b : Option ℕ) → MatchOption a (IsUndetected net names budget vectors fault) (IsDetectedAt net names budget vectors fault)
      → MatchOption b (IsUndetected net names budget vectors fault) (IsDetectedAt net names budget vectors fault) → a ≡ b
  same_line fault None None first second = refl
  same_line fault None (Some number) first second = absurd (first number second.detects)
  same_line fault (Some number) None first second = absurd (second number first.detects)
  same_line fault (Some number) (Some other) first second =
      let most = first.least other second.detects in
      let least = second.least number first.detects in
      let same : number ≡ other = omega (arith, most, least) in
      ap Some same

  -- and so one grade
  same_grade : (fault : StuckFault) (a b : Graded) → IsGrade net names budget vectors fault a → IsGrade net names budget vectors fault b → a ≡ b
  same_grade fault a b first second =
      let make : ℕ → Level → Option ℕ → Graded = λ n v l. record { node = n; value = v; line = l } in
      ap (λ (n : ℕ). make n a.value a.line) (first.node ∙ sym second.node) ∙ ap (λ (v : Level). make b.node v a.line) (first.value ∙ sym second.value)
      ∙ ap (make b.node b.value) (same_line fault a.line b.line first.line second.line)

  pub same_grades : (faults : List StuckFault) (grades others : List Graded) → AllZip (IsGrade net names budget vectors) faults grades
      → AllZip (IsGrade net names budget vectors) faults others → grades ≡ others
  same_grades [] [] [] first second = refl
  same_grades [] [] (b ∷ others) first second = absurd second
  same_grades [] (a ∷ grades) others first second = absurd first
  same_grades (fault ∷ faults) [] others first second = absurd first
  same_grades (fault ∷ faults) (a ∷ grades) [] first second = absurd second
  same_grades (fault ∷ faults) (a ∷ grades) (b ∷ others) first second =
      let here : a ≡ b = same_grade fault a b first.0 second.0 in
      let later : grades ≡ others = same_grades faults grades others first.1 second.1 in
      ap (λ (one : Graded). one ∷ grades) here ∙ ap (λ (more : List Graded). b ∷ more) later

-- ---- the list of faults

-- the faults but those of the nodes that two tests tell alike
pub same_faults : (p q : ℕ → Bool) (nodes : ℕ) → ((v : ℕ) → p v ≡ q v) → faults_but p nodes ≡ faults_but q nodes
same_faults p q nodes same = ap (λ (test : ℕ → Bool). faults_but test nodes) (fun_ext same)

-- the faults of one node more
faults_more : (p : ℕ → Bool) (nodes : ℕ) → faults_but p (nodes + 1) ≡ faults_but p nodes ++ flat_map faults_at (filter (λ v. not (p v)) (nodes ∷ []))
faults_more p nodes =
    let kept : ℕ → Bool = λ v. not (p v) in
    ap (λ (all : List ℕ). flat_map faults_at (filter kept all)) (range_one_more nodes)
    ∙ ap (flat_map faults_at) (filter-append kept (range_with_len 0 nodes) (nodes ∷ []))
    ∙ flat_map-append faults_at (filter kept (range_with_len 0 nodes)) (filter kept (nodes ∷ []))

-- of one that can't be stuck
pub faults_left : (p : ℕ → Bool) (nodes : ℕ) → p nodes ≡ true → faults_but p (nodes + 1) ≡ faults_but p nodes
faults_left p nodes never =
    let last : flat_map faults_at (filter (λ v. not (p v)) (nodes ∷ [])) ≡ [] = rw never refl in
    faults_more p nodes ∙ ap (λ (more : List StuckFault). faults_but p nodes ++ more) last ∙ append-nil (faults_but p nodes)

-- and of one that can
pub faults_kept : (p : ℕ → Bool) (nodes : ℕ) → p nodes ≡ false → faults_but p (nodes + 1) ≡ faults_but p nodes ++ faults_at nodes
faults_kept p nodes can =
    let last : flat_map faults_at (filter (λ v. not (p v)) (nodes ∷ [])) ≡ faults_at nodes = rw can refl in
    faults_more p nodes ∙ ap (λ (more : List StuckFault). faults_but p nodes ++ more) last

-- the grades of two faults more
pub two_more : (R : StuckFault → Graded → Type 0) (faults : List StuckFault) (grades : List Graded) (v : ℕ) (low high : Graded)
    → AllZip R faults grades → R (record { node = v; value = Zero }) low → R (record { node = v; value = One }) high
    → AllZip R (faults ++ faults_at v) ((grades ++ low ∷ []) ++ high ∷ [])
two_more R faults grades v low high before first second =
    let zero : StuckFault = record { node = v; value = Zero } in
    let one : StuckFault = record { node = v; value = One } in
    let both = all_zipped_more R (faults ++ zero ∷ []) (grades ++ low ∷ []) one high (all_zipped_more R faults grades zero low before first) second in
    subst (λ (all : List StuckFault). AllZip R all ((grades ++ low ∷ []) ++ high ∷ [])) (append_assoc faults (zero ∷ []) (one ∷ [])) both

-- the grades up to a node, and those of the node
pub graded_more : (net here : Network) (names listed : List (List ℕ × ℕ)) (budget : ℕ) (vectors : Vectors) (p : ℕ → Bool) (nodes : ℕ) (old new : List Graded)
    → here ≡ net → listed ≡ names → p nodes ≡ false → AllZip (IsGrade net names budget vectors) (faults_but p nodes) old
    → ((faults : List StuckFault) → AllZip (IsGrade here listed budget vectors) faults old
    → AllZip (IsGrade here listed budget vectors) (faults ++ faults_at nodes) new)
    → AllZip (IsGrade net names budget vectors) (faults_but p (nodes + 1)) new
graded_more net here names listed budget vectors p nodes old new same same_names can before more =
    let Adds : Network → List (List ℕ × ℕ) → Type 0 =
    λ n l. (faults : List StuckFault) → AllZip (IsGrade n l budget vectors) faults old → AllZip (IsGrade n l budget vectors) (faults ++ faults_at nodes) new in
    let step = subst (λ (n : Network). Adds n names) same (subst (Adds here) same_names more) in
    subst (λ (faults : List StuckFault). AllZip (IsGrade net names budget vectors) faults new) (sym (faults_kept p nodes can))
    (step (faults_but p nodes) before)
