-- What most files of proofs name of what stands below, and of the definitions of this crate.
pub use Rattle.std.proofs.Common.{◌≡◌, ◌<◌, ℕ, List, [], ◌∷◌, ◌++◌, length, map, take, sym, ◌∙◌, ap, arith, length-append, ◌≤◌, ℤ, drop, subst, ◌+ℤ◌}
pub use Rattle.std.proofs.Common.{rules, to_z, of_z}
pub use Rattle.std.specs.List.{flat_map}
pub use Rattle.std.specs.Int.{w128}
pub use Rattle.std.proofs.lemmas.Int.{to_z-of_z}
pub use Rattle.ext_model.specs.declared.records.FetRec.{FetRec}
pub use Rattle.ext_model.specs.declared.circuits.Circuit.{Circuit}
pub use Rattle.ext_model.specs.declared.records.NodeRec.{NodeRec}
pub use Rattle.ext_model.specs.declared.records.TermRec.{TermRec}
pub use Rattle.sim_text.specs.declared.files.SimFet.{SimFet}
pub use Rattle.sim_text.specs.declared.limits.TheConstants.{LONGEST_TEXT}
pub use Rattle.sim_text.specs.WrittenTexts.{lines_saying, saying_alias, saying_cap, sim_text, whole_line_saying}
pub use Rattle.sim_records.specs.declared.limits.TheConstants.{MOST_SWITCHES}
pub use Rattle.sim_records.specs.Switches.{switches_of, switches_among, switches_from, switch_between}
pub use Rattle.sim_records.specs.declared.drafts.SimDraft.{SimDraft}
pub use Rattle.sim_records.specs.SimRecords.{aliases_of, cap_of, sim_of}
pub use Rattle.sim_records.specs.Drafts.{AddsSwitches, CountsAsFar, GoesOnBy, IsAsFar, aliases_text, caps_text, switches_text}
