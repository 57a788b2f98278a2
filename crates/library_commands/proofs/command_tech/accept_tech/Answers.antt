use Rattle.library_commands.proofs.Common.{◌≡◌, List, [], ◌∷◌, Ok, Err, None, refl, sym, subst, rules, IfOk-weaker, ReportLine, technology_of, seen}
use Rattle.library_commands.proofs.Common.{Agrees, tech_text, reply, both_ok, state_of, log_forgotten}
use Rattle.workspace.proofs.RecordLaws.{agrees_none}
use Rattle.line_answers.specs.LineEffects.{IsOfInside}
use Rattle.library_commands.proofs.TechLaws.{tech_accepted, tech_text_refused}
use Rattle.library_commands.proofs.command_tech.accept_tech.Goals as goal

pub returns-in-Ok-clause-effect : goal.returns-in-Ok-clause-effect
returns-in-Ok-clause-effect c =
    let is : technology_of c.args.text.now ≡ Ok c.in-Ok.read = search rules in
    let lines : c.told.result.lines.items ≡ reply (tech_text c.in-Ok.read) ∷ [] = search rules in
    tech_accepted c.args.number c.args.file (technology_of c.args.text.now) c.in-Ok.read c.new.result c.new-in-Ok.result c.new-in-Ok-2.result c.told.result is
    c.new.ensures c.new-in-Ok.ensures c.new-in-Ok-2.ensures lines c.told.ensures.stores

pub returns-in-Ok-clause-kept : goal.returns-in-Ok-clause-kept
returns-in-Ok-clause-kept c =
    record {
      current = tt;
      agrees = subst (Agrees c.new.result) (sym c.new-in-Ok.ensures) (agrees_none c.new.result);
      log = log_forgotten (seen c.new.result) c.new-in-Ok-2.result c.new-in-Ok-2.ensures;
    }

pub returns-clause-effect : goal.returns-clause-effect
returns-clause-effect c =
    let is : technology_of c.args.text.now ≡ Err c.in-Err.at = search rules in
    let none : state_of c.args.session.now ≡ None = search rules in
    both_ok c.refused.result _ _ _
    (λ answer lines stores. tech_text_refused c.args.number c.args.file (technology_of c.args.text.now) c.in-Err.at (state_of c.args.session.now) answer is none
    lines stores)
    c.refused.ensures.lines c.refused.ensures.stores

pub returns-clause-inside : goal.returns-clause-inside
returns-clause-inside c =
    IfOk-weaker c.refused.result _ _
    (λ answer lines. subst (λ (all : List ReportLine). IsOfInside all) (sym lines) (record { present = refl; fits = refl })) c.refused.ensures.lines
