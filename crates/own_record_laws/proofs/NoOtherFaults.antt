-- A record without uses and merges can have too many nodes or too long names, and no other fault.
use Rattle.own_record_laws.proofs.Common.{◌≡◌, ◌⊎◌, ℕ, Bool, true, false, cond, List, [], ◌∷◌, length, inl, inr, refl, sym, ap, subst, eq-eqb}
use Rattle.own_record_laws.proofs.Common.{Option, Some, None, NodeRec, FetRec, CellExt}
use Rattle.std.specs.Option.{option_or}
use Rattle.full_names.specs.CircuitModel.declared.faults.FlatFault.{FlatFault}
use Rattle.full_names.specs.CircuitModel.declared.faults.FlatFault.TheVariants.{TooMany, Classes}
use Rattle.full_names.specs.CircuitModel.declared.limits.CircuitLimit.TheVariants.{Nodes, Names}
use Rattle.full_names.specs.CircuitModel.Elements.{elements_below}
use Rattle.full_names.specs.CircuitModel.Refusals.{use_fault, chain_length, flat_fault}
use Rattle.own_record_laws.specs.Laws.{OwnRecordsHaveNoOtherFault}
use Rattle.own_record_laws.proofs.OneElement.{only_record}

-- a fault that comes of one of two tests, and of nothing else
one_of_two : (many long : Bool) (class : Option FlatFault) (fault : FlatFault) → class ≡ None
    → option_or (option_or (cond many (Some (TooMany Nodes)) None) (option_or (cond long (Some (TooMany Names)) None) None))
    (option_or (option_or class None) None)
    ≡ Some fault
    → (fault ≡ TooMany Nodes) ⊎ (fault ≡ TooMany Names)
one_of_two true long class fault none is = inl (cc)
one_of_two false true class fault none is = inr (cc)
one_of_two false false None fault none is = absurd (cc)
one_of_two false false (Some other) fault none is = absurd (cc)

-- the record of a cell without uses and merges
abbrev bare : List ℕ → List ℕ → List ℕ → List NodeRec → List FetRec → CellExt
bare cell tech classes nodes fets = record {
  cell = cell;
  tech = tech;
  classes = classes;
  uses = [];
  nodes = nodes;
  fets = fets;
  merges = [];
}

-- its fault, as it is computed
bare_fault : (cell tech classes : List ℕ) (nodes : List NodeRec) (fets : List FetRec) (fault : FlatFault)
    → flat_fault (bare cell tech classes nodes fets ∷ []) (bare cell tech classes nodes fets) ≡ Some fault
    → (fault ≡ TooMany Nodes) ⊎ (fault ≡ TooMany Names)
unfolding use_fault chain_length elements_below
bare_fault cell tech classes nodes fets fault is =
    one_of_two _ _ _ fault
    (ap (λ (same : Bool). cond same None (Some (Classes cell))) (eq-eqb (length classes) (length classes) refl))
    is

-- and so that of the record of a cell without uses
pub no_other_fault : OwnRecordsHaveNoOtherFault
no_other_fault raw layout labels name ext fault is faulty =
    let same : bare ext.cell ext.tech ext.classes ext.nodes ext.fets ≡ ext = (λ i. record {
      cell = ext.cell;
      tech = ext.tech;
      classes = ext.classes;
      uses = sym is.uses i;
      nodes = ext.nodes;
      fets = ext.fets;
      merges = sym is.merges i;
    }) in
    let P : CellExt → Type 0 = λ e. flat_fault (e ∷ []) e ≡ Some fault in
    let Q : CellExt → Type 0 = λ e. flat_fault (ext ∷ []) e ≡ Some fault in
    bare_fault ext.cell ext.tech ext.classes ext.nodes ext.fets fault
    (subst P (sym same) (subst Q (sym (only_record ext faulty.top name faulty.found)) faulty.faulty))
