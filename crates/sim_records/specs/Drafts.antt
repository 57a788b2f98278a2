-- Sim texts in the making.
use Rattle.std.specs.Prelude.{◌≡◌, ◌⊎◌, ◌<◌, ℕ, List, ◌++◌, length}
use Rattle.std.specs.List.{flat_map}
use Rattle.ext_model.specs.declared.records.NodeRec.{NodeRec}
use Rattle.sim_text.specs.declared.files.SimFet.{SimFet}
use Rattle.sim_text.specs.declared.files.SimLine.TheVariants.{Header, Fet}
use Rattle.sim_text.specs.declared.limits.TheConstants.{LONGEST_TEXT}
use Rattle.sim_text.specs.WrittenTexts.{lines_saying, saying_alias, saying_cap, whole_line_saying}
use Rattle.sim_records.specs.declared.drafts.SimDraft.{SimDraft}
use Rattle.sim_records.specs.declared.limits.TheConstants.{MOST_SWITCHES}
use Rattle.sim_records.specs.SimRecords.{cap_of}

-- the text has all of the whole, or both are too long
abbrev pub IsAsFar : List ℕ → List ℕ → Type 0
IsAsFar whole text = (text ≡ whole) ⊎ ((LONGEST_TEXT < length text) × (LONGEST_TEXT < length whole))

-- whatever the old text has, the new one has that and more
abbrev pub GoesOnBy : List ℕ → List ℕ → List ℕ → Type 0
GoesOnBy more old new = (whole : List ℕ) → IsAsFar whole old → IsAsFar (whole ++ more) new

-- the number is that of so many, or both are too many
abbrev pub CountsAsFar : ℕ → ℕ → Type 0
CountsAsFar many count = (count ≡ many) ⊎ ((MOST_SWITCHES < count) × (MOST_SWITCHES < many))

-- the first line, and the lines of switches
abbrev pub switches_text : List ℕ → List SimFet → List ℕ
switches_text tech switches = whole_line_saying (Header tech) ++ lines_saying Fet switches

-- The draft has the first line and the lines of these switches, as far as a text goes, and counts them, as far as there may be any.
pub record IsDraftOf (tech : List ℕ) (switches : List SimFet) (draft : SimDraft) : Type 0 where
  pub text : IsAsFar (switches_text tech switches) draft.text.items
  pub count : CountsAsFar (length switches) draft.switches

-- whatever switches the old draft has, the new one has those and more
abbrev pub AddsSwitches : List SimFet → SimDraft → SimDraft → Type 0
AddsSwitches more old new = (tech : List ℕ) (switches : List SimFet) → IsDraftOf tech switches old → IsDraftOf tech (switches ++ more) new

-- the lines of the capacitances of nodes
abbrev pub caps_text : List NodeRec → List ℕ
caps_text nodes = lines_saying (λ node. saying_cap (cap_of node)) nodes

-- the lines of the other names of a node
abbrev pub node_aliases_text : NodeRec → List ℕ
node_aliases_text node = lines_saying (λ alias. saying_alias (node.name, alias)) node.aliases

-- the lines of the other names of nodes
abbrev pub aliases_text : List NodeRec → List ℕ
aliases_text nodes = flat_map node_aliases_text nodes
