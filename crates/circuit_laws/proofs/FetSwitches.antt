-- The switches of a transistor have its letter and its gate, and lead between its terminals.
use Rattle.circuit_laws.proofs.Common.{◌≡◌, ℕ, List, [], ◌∷◌, map, inl, inr, refl, subst, ◌+ℤ◌, In, In-append_cases, In-map, In-map_source, FetRec}
use Rattle.circuit_laws.proofs.Common.{TermRec, SimFet, letter_of, switches_of}
use Rattle.sim_records.specs.Switches.{switch_between, switches_among, switches_from, switches_with}

-- the names at terminals
abbrev pub nodes_at : List TermRec → List (List ℕ)
nodes_at sides = map (λ side. side.node) sides

-- The switch has the letter and the gate of the transistor, and leads between two of these terminals.
pub record IsSwitchOf (fet : FetRec) (sides : List TermRec) (switch : SimFet) : Type 0 where
  pub letter : switch.letter ≡ letter_of fet.kind
  pub gate : switch.gate ≡ fet.gate.node
  pub source : In switch.source (nodes_at sides)
  pub drain : In switch.drain (nodes_at sides)

from_one : (fet : FetRec) (source : TermRec) (others : List TermRec) (switch : SimFet) → In switch (switches_from fet source others)
    → IsSwitchOf fet (source ∷ others) switch
from_one fet source others switch here =
    let end = In-map_source (λ (drain : TermRec). switch_between fet source drain (source.length +ℤ drain.length)) switch others here in
    subst (IsSwitchOf fet (source ∷ others)) end.1.1
    (record { letter = refl; gate = refl; source = inl refl; drain = inr (In-map (λ (side : TermRec). side.node) end.0 others end.1.0) })

among : (fet : FetRec) (sides : List TermRec) (switch : SimFet) → In switch (switches_among fet sides) → IsSwitchOf fet sides switch
among fet [] switch absent = absurd absent
among fet (source ∷ others) switch here =
    elim (In-append_cases switch (switches_from fet source others) (switches_among fet others) here) [
      | inl first ↦ from_one fet source others switch first
      | inr later ↦
          (let is = among fet others switch later in
          record { letter = is.letter; gate = is.gate; source = inr is.source; drain = inr is.drain })
    ]

led_by : (fet : FetRec) (sides : List TermRec) (switch : SimFet) → In switch (switches_with fet sides) → IsSwitchOf fet sides switch
led_by fet [] switch absent = absurd absent
led_by fet (one ∷ []) switch (inl same) =
    subst (IsSwitchOf fet (one ∷ [])) same (record { letter = refl; gate = refl; source = inl refl; drain = inl refl })
led_by fet (one ∷ []) switch (inr absent) = absurd absent
led_by fet (one ∷ other ∷ others) switch here = among fet (one ∷ other ∷ others) switch here

pub switch_of_fet : (fet : FetRec) (switch : SimFet) → In switch (switches_of fet) → IsSwitchOf fet fet.terminals switch
switch_of_fet fet = led_by fet fet.terminals
