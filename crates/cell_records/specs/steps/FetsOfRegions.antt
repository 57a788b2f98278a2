-- The records of transistors of regions, whose nodes have numbers.
use Rattle.std.specs.Prelude.{◌≡◌, ◌<◌, ◌^◌, ℕ, ℤ, pos, ◌-ℤ◌, ◌≤ℤ◌, ◌<ℤ◌, IsTrue, List, [], length, map, slice_index, slice_index_or, All}
use Rattle.finite_sets.specs.Lists.{In}
use Rattle.finite_sets.specs.Total.{sum_on}
use Rattle.tech_model.specs.declared.raw.FetRule.{FetRule}
use Rattle.tech_model.specs.declared.raw.RawTech.{RawTech}
use Rattle.ext_model.specs.declared.records.FetRec.{FetRec}
use Rattle.ext_model.specs.declared.records.NodeRec.{NodeRec}
use Rattle.ext_model.specs.declared.records.TermRec.{TermRec}
use Rattle.tech_model.specs.ChannelRoles.{is_channel}
use Rattle.fet_regions.specs.declared.transistors.Fet.{Fet}
use Rattle.cell_records.specs.steps.Joined.{AreJoined}

abbrev pub no_node : NodeRec
no_node = record { name = []; aliases = []; cap = pos 0; x = pos 0; y = pos 0; kind = []; measures = [] }

-- what the node with this number goes by
abbrev pub name_at : List NodeRec → ℕ → List ℕ
name_at nodes number = (slice_index_or nodes number no_node).name

-- the terminal, with the name of its node
abbrev pub term_of : List NodeRec → ℕ × ℤ → TermRec
term_of nodes terminal = record { node = name_at nodes terminal.0; length = terminal.1 }

-- The transistor has a rule in the technology, its regions have numbers, and its lengths fit.
pub record IsSmallFet (raw : RawTech) (numbers : List ℕ) (fet : Fet) : Type 0 where
  pub channel : IsTrue (is_channel raw fet.kind.0)
  pub gate : fet.gate < length numbers
  pub regions : All (λ terminal. terminal.0 < length numbers) fet.terminals
  pub some : All (λ terminal. pos 0 <ℤ terminal.1) fet.terminals
  pub lengths : sum_on (λ terminal. terminal.1) fet.terminals ≤ℤ pos (2 ^ 63)
  pub some_edges : pos 0 ≤ℤ fet.perimeter
  pub most_edges : fet.perimeter ≤ℤ pos (2 ^ 63)

-- The record is that of the transistor: its rule's words, its sizes, its gate's node with what the terminals leave of the perimeter, and
-- its terminals by nodes.
pub record IsRecordOfFet (raw : RawTech) (nodes : List NodeRec) (numbers : List ℕ) (fet : Fet) (made : FetRec) : Type 0 where
  pub rule : FetRule
  pub listed : In rule raw.fets
  pub channel : rule.kind.0 ≡ fet.kind.0
  pub kind : made.kind ≡ rule.name
  pub substrate : made.substrate ≡ rule.substrate
  pub x : made.x ≡ fet.point.x
  pub y : made.y ≡ fet.point.y
  pub area : made.area ≡ fet.area
  pub perimeter : made.perimeter ≡ fet.perimeter
  pub gate : made.gate
      ≡ record { node = name_at nodes (slice_index numbers fet.gate); length = fet.perimeter -ℤ sum_on (λ terminal. terminal.1) fet.terminals }
  pub joined : List (ℕ × ℤ)
  pub are_joined : AreJoined numbers fet.terminals joined
  pub terminals : made.terminals ≡ map (term_of nodes) joined

-- There is a record of each transistor.
pub record AreRecordsOfFets (raw : RawTech) (nodes : List NodeRec) (numbers : List ℕ) (fets : List Fet) (made : List FetRec) : Type 0 where
  pub one_each : length made ≡ length fets
  pub each : (k : ℕ) (fet : Fet) (rec : FetRec) → k < length fets → IsRecordOfFet raw nodes numbers (slice_index_or fets k fet) (slice_index_or made k rec)
