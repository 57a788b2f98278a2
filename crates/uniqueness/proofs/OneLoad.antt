-- A load has one outcome.
use Rattle.uniqueness.proofs.Common.{◌≡◌, ◌⊎◌, inl, inr, ℕ, List, [], ◌∷◌, length, sym, ap, ◌∙◌, subst, Files, FileIsRefused, Reading, All, Stopped}
use Rattle.uniqueness.proofs.Common.{fetched_by, CellBody, LibFault, AddAllIsRefused, with_all, FirstOf, LibraryView, view_at}
use Rattle.session_model.proofs.FileTreeLaws.{one_reading}
use Rattle.cell_loading.specs.CellTree.declared.sizes.Dimension.TheVariants.{Depth as DepthOf, Elements as ElementsOf, Hull}
use Rattle.edit_script.specs.CellLibrary.declared.faults.LibFault.TheVariants.{OutOfRange, Cycle, TooMany}
use Rattle.edit_script.specs.CellLibrary.declared.limits.LibraryLimit.TheVariants.{Depth, Edits, Elements}
use Rattle.edit_script.specs.CellLibrary.declared.limits.TheConstants.{MOST_EDITS}
use Rattle.edit_script.specs.CellLibrary.Additions.{IsBelowItself, IsFirstBelowItself}
use Rattle.edit_script.specs.CellLibrary.Limits.{GoesPast}
use Rattle.edit_script.specs.CellLibrary.Refusals.{EditIsRefused, NothingElse}
use Rattle.uniqueness.proofs.LibraryFaults.{one_add_all}
use Rattle.uniqueness.proofs.OneFault.{first_of}
use Rattle.cell_loading.specs.declared.faults.LoadFault.{LoadFault}
use Rattle.cell_loading.specs.CellFiles.{ReadCell}
use Rattle.cell_loading.specs.Loads.{AreBodiesOf, AreRead, CellsAreRefused, IsLoaded, LoadIsRefused, end_fault}
use Rattle.cell_loading.specs.Readings.{cell_files}
use Rattle.uniqueness.proofs.OneLibrary.{as_many_as_read, with_bodies}

-- what refuses cells speaks of the library that they would make alone
abbrev RefusesWith : LibraryView → LibFault → Type 0
RefusesWith after told =
    ((cell : ℕ) × IsFirstBelowItself after cell × (told ≡ Cycle (view_at after cell).name))
    ⊎ (((cell : ℕ) → IsBelowItself after cell → ⊥)
    × FirstOf (GoesPast DepthOf after) (TooMany Depth)
    (FirstOf (GoesPast ElementsOf after) (TooMany Elements)
    (FirstOf (GoesPast Hull after) OutOfRange
    NothingElse)) told)

-- so bodies that make one library are refused alike
refused_alike : (view : LibraryView) (edits : ℕ) (bodies others : List (List ℕ × CellBody)) (told : LibFault)
    → with_all view bodies ≡ with_all view others → EditIsRefused edits (AddAllIsRefused view bodies) told
    → EditIsRefused edits (AddAllIsRefused view others) told
refused_alike view edits bodies others told same refused =
    subst (λ (after : LibraryView). EditIsRefused edits (RefusesWith after) told) same refused

-- ---- what reading came to

-- all was read
abbrev whole : List ReadCell → Reading ReadCell LoadFault
whole read = All read

one_list : (read others : List ReadCell) → whole read ≡ whole others → read ≡ others
one_list read others same = cc

all_or_stopped : (read others : List ReadCell) (name : List ℕ) (fault : LoadFault) → All read ≡ Stopped others name fault → ⊥
all_or_stopped read others name fault same = cc

one_stop : (read others : List ReadCell) (name next : List ℕ) (fault other : LoadFault) → Stopped read name fault ≡ Stopped others next other
    → fault ≡ other
one_stop read others name next fault other same = cc

module _ (files : Files) (view : LibraryView) (edits : ℕ) (root : List ℕ) where
  -- one list of cells is read
  same_read : (bodies others : List (List ℕ × CellBody)) (p : AreRead files view root bodies) (q : AreRead files view root others) → p.read ≡ q.read
  same_read bodies others p q = one_list p.read q.read (one_reading (cell_files view) files (All q.read) p.reads q.reads)

  -- so their bodies make one library
  same_library : (bodies others : List (List ℕ × CellBody)) → AreRead files view root bodies → AreRead files view root others
      → with_all view bodies ≡ with_all view others
  same_library bodies others p q =
      with_bodies view p.read bodies p.are_bodies
      ∙ sym (with_bodies view p.read others
      (subst (λ (read : List ReadCell). AreBodiesOf view.tech read others) (sym (same_read bodies others p q)) q.are_bodies))

  -- and one list of files was asked for
  same_fetched : (bodies others : List (List ℕ × CellBody)) (p : AreRead files view root bodies) (q : AreRead files view root others)
      → fetched_by (cell_files view) (All p.read) ≡ fetched_by (cell_files view) (All q.read)
  same_fetched bodies others p q = ap (λ (read : List ReadCell). fetched_by (cell_files view) (whole read)) (same_read bodies others p q)

  -- what is loaded is one
  pub same_load : (after other : LibraryView) (count more : ℕ) (fetched others : List (List ℕ)) → IsLoaded files view after edits root count fetched
      → IsLoaded files view other edits root more others → (after ≡ other) × (count ≡ more) × (fetched ≡ others)
  same_load after other count more fetched others p q =
      let read = same_read p.bodies q.bodies p.are_read q.are_read in (
        p.after_is ∙ same_library p.bodies q.bodies p.are_read q.are_read ∙ sym q.after_is,
        p.count_is ∙ as_many_as_read view.tech p.are_read.read p.bodies p.are_read.are_bodies ∙ ap length read
            ∙ sym (as_many_as_read view.tech q.are_read.read q.bodies q.are_read.are_bodies) ∙ sym q.count_is,
        p.fetched_are ∙ same_fetched p.bodies q.bodies p.are_read q.are_read ∙ sym q.fetched_are,
      )

  -- a file that is refused is one
  same_stop : (fetched others : List (List ℕ)) (fault other : LoadFault) → FileIsRefused (cell_files view) files root fetched fault
      → FileIsRefused (cell_files view) files root others other → (fetched ≡ others) × (fault ≡ other)
  same_stop fetched others fault other p q =
      let end = one_reading (cell_files view) files (Stopped q.read q.name other) p.stops q.stops in (
        p.fetched_are ∙ ap (fetched_by (cell_files view)) end ∙ sym q.fetched_are,
        one_stop p.read q.read p.name q.name fault other end,
      )

  -- all is read, or a file is refused
  not_stopped : (bodies : List (List ℕ × CellBody)) (fetched : List (List ℕ)) (fault : LoadFault) → AreRead files view root bodies
      → ¬ (FileIsRefused (cell_files view) files root fetched fault)
  not_stopped bodies fetched fault p q =
      all_or_stopped p.read q.read q.name fault (one_reading (cell_files view) files (Stopped q.read q.name fault) p.reads q.stops)

  -- the cells are refused for one fault
  same_cells : (fetched others : List (List ℕ)) (fault other : LoadFault) → CellsAreRefused files view edits root fetched fault
      → CellsAreRefused files view edits root others other → (fetched ≡ others) × (fault ≡ other)
  same_cells fetched others fault other p q =
      let alike = refused_alike view edits q.bodies p.bodies q.refused (same_library q.bodies p.bodies q.are_read p.are_read) q.is_refused in
      let one = first_of (edits ≡ MOST_EDITS) (TooMany Edits) (AddAllIsRefused view p.bodies) (one_add_all view p.bodies) in (
        p.fetched_are ∙ same_fetched p.bodies q.bodies p.are_read q.are_read ∙ sym q.fetched_are,
        p.is ∙ ap end_fault (one p.refused q.refused p.is_refused alike) ∙ sym q.is,
      )

  -- a load is refused for one fault
  pub same_refusal : (fetched others : List (List ℕ)) (fault other : LoadFault) → LoadIsRefused files view edits root fetched fault
      → LoadIsRefused files view edits root others other → (fetched ≡ others) × (fault ≡ other)
  same_refusal fetched others fault other (inl p) (inl q) = (p.2 ∙ sym q.2, p.1 ∙ sym q.1)
  same_refusal fetched others fault other (inl p) (inr q) = absurd (q.0 p.0)
  same_refusal fetched others fault other (inr p) (inl q) = absurd (p.0 q.0)
  same_refusal fetched others fault other (inr (new, inl p)) (inr (also, inl q)) = same_stop fetched others fault other p q
  same_refusal fetched others fault other (inr (new, inl p)) (inr (also, inr q)) = absurd (not_stopped q.bodies fetched fault q.are_read p)
  same_refusal fetched others fault other (inr (new, inr p)) (inr (also, inl q)) = absurd (not_stopped p.bodies others other p.are_read q)
  same_refusal fetched others fault other (inr (new, inr p)) (inr (also, inr q)) = same_cells fetched others fault other p q

  -- and then it is not done
  pub not_both : (after : LibraryView) (count : ℕ) (fetched others : List (List ℕ)) (fault : LoadFault)
      → IsLoaded files view after edits root count fetched → ¬ (LoadIsRefused files view edits root others fault)
  not_both after count fetched others fault p (inl q) = p.new q.0
  not_both after count fetched others fault p (inr (new, inl q)) = not_stopped p.bodies others fault p.are_read q
  not_both after count fetched others fault p (inr (new, inr q)) =
      p.may_come q.refused (refused_alike view edits q.bodies p.bodies q.refused (same_library q.bodies p.bodies q.are_read p.are_read) q.is_refused)
