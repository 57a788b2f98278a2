use Rattle.circuit_commands.proofs.Common.{◌++◌, ◌∙◌, List, [], ap, subst, ReportLine}
use Rattle.std.proofs.lemmas.List.{flat_map_more}
use Rattle.std.proofs.lemmas.Result.{on_ok_weaker}
use Rattle.sim_text.specs.declared.files.SimFet.{SimFet}
use Rattle.sim_records.specs.Drafts.{IsDraftOf}
use Rattle.sim_records.specs.Switches.{switches_of}
use Rattle.circuit_commands.specs.Circuits.{bare_of}
use Rattle.circuit_commands.proofs.given.SimFetsFetSink.give.Goals as goal

pub returns : goal.returns
returns c =
    let fet = c.args.fet in
    on_ok_weaker c.add_bare.result
    (λ added tech fets was. record {
      draft = subst (λ (l : List SimFet). IsDraftOf tech l c.add_fet.new.self) (flat_map_more switches_of [] fets fet)
          (c.in_ok-add_fet.ensures tech _ was.draft);
      bare = added ∙ ap (λ (l : List ReportLine). l ++ bare_of fet) was.bare ∙ flat_map_more bare_of [] fets fet;
    })
    c.add_bare.ensures
