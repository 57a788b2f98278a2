-- What a file of rules says, and where it is refused.
use Rattle.std.specs.Prelude.{◌≡◌, ◌⊎◌, ◌+◌, ◌≤◌, nat_le, ℕ, if◌then◌else◌, List, [], ◌∷◌, ◌++◌, length, Option, Some, None, Result, Ok, Err}
use Rattle.std.specs.List.{filter_map}
use Rattle.text_scan.specs.Lines.{lines_of}
use Rattle.text_form.specs.declared.reading.At.{At}
use Rattle.text_form.specs.Folds.{text_state}
use Rattle.text_form.specs.SaidLines.{and_then, AreSaid}
use Rattle.tech_model.specs.declared.raw.RawTech.{RawTech}
use Rattle.drc_rules.specs.declared.rules.Rule.{Rule}
use Rattle.drc_rules.specs.declared.faults.DrcFault.{DrcFault}
use Rattle.drc_rules.specs.declared.faults.DrcFault.TheVariants.{TooManyRules}
use Rattle.drc_rules.specs.declared.limits.TheConstants.{MOST_RULES}
use Rattle.drc_rules.specs.RuleLines.{line_says}

-- the rules with one more, if there may be one
abbrev pub with_rule : List Rule → Option Rule → Result (List Rule) DrcFault
with_rule rules None = Ok rules
with_rule rules (Some rule) = if nat_le MOST_RULES (length rules) then Err TooManyRules else Ok (rules ++ rule ∷ [])

-- the rules with that of one more line, or that line's first fault
abbrev pub with_line : RawTech → List Rule → List ℕ → Result (List Rule) DrcFault
with_line raw rules line = and_then (line_says raw line) (with_rule rules)

-- The rules of a text; or its first faulty line, with its first fault.
unfoldable pub rules_of : RawTech → List ℕ → Result (List Rule) (At DrcFault)
rules_of raw text = text_state (λ number. with_line raw) Ok [] (lines_of text)

-- ---- the same line by line

-- the rules among what lines say
abbrev pub rules_among : List (Option Rule) → List Rule
rules_among said = filter_map (λ rule. rule) said

-- Each of the lines says a rule or is read over, and these are the rules, in order, no more than there may be.
pub record SayRules (raw : RawTech) (lines : List (List ℕ)) (rules : List Rule) : Type 0 where
  pub said : List (Option Rule)
  pub fine : AreSaid (λ number. line_says raw) 1 lines said
  pub rules_are : rules ≡ rules_among said
  pub few : length rules ≤ MOST_RULES

-- The line says one rule more than there may be behind these.
pub record IsOneTooMany (raw : RawTech) (rules : List Rule) (line : List ℕ) (fault : DrcFault) : Type 0 where
  pub rule : Rule
  pub said : line_says raw line ≡ Ok (Some rule)
  pub full : length rules ≡ MOST_RULES
  pub fault_is : fault ≡ TooManyRules

-- the line has the fault by itself, or else behind these rules
abbrev pub HasFault : RawTech → List Rule → List ℕ → DrcFault → Type 0
HasFault raw rules line fault = (line_says raw line ≡ Err fault) ⊎ IsOneTooMany raw rules line fault

-- The first faulty line of a text: the lines before it say rules, and it has the fault.
pub record IsRefusedAt (raw : RawTech) (text : List ℕ) (at : At DrcFault) : Type 0 where
  pub before : List (List ℕ)
  pub line : List ℕ
  pub after : List (List ℕ)
  pub rules : List Rule
  pub lines_are : lines_of text ≡ before ++ line ∷ after
  pub fine : SayRules raw before rules
  pub numbered : at.line ≡ 1 + length before
  pub faulty : HasFault raw rules line at.fault
