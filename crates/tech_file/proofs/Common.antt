-- What most files of proofs name of what stands below, and of the definitions of this crate.
pub use Rattle.std.proofs.Common.{◌≡◌, ◌≢◌, ◌+◌, ◌==◌, ◌&&◌, ℕ, Bool, true, false, List, [], ◌∷◌, ◌++◌, refl, sym, ap, subst, ◌∙◌, arith, inl, inr}
pub use Rattle.std.proofs.Common.{◌⊎◌, cond, length}
pub use Rattle.std.specs.Prelude.{Option, Some, None, Result, Ok, codes}
pub use Rattle.std.specs.Option.{option_map, option_map_or, option_and_then}
pub use Rattle.std.proofs.lemmas.Bool.{cases_Bool}
pub use Rattle.finite_sets.specs.Lists.{In}
pub use Rattle.tech_model.specs.declared.faults.Section.{Section}
pub use Rattle.text_form.specs.declared.reading.At.{At}
pub use Rattle.text_form.specs.Folds.{first_fault_or, last_number}
pub use Rattle.text_form.specs.SaidLines.{and_then}
pub use Rattle.tech_model.specs.declared.faults.TechFault.{TechFault}
pub use Rattle.tech_draft.specs.Drafts.{Drafted, empty_draft}
pub use Rattle.tech_draft.proofs.Refusals.{right, and_then-ok, rule-ok}
pub use Rattle.text_scan.specs.Lines.{lines_of}
pub use Rattle.tech_file.specs.declared.places.Place.{Place}
pub use Rattle.tech_file.specs.declared.places.Place.TheVariants.{Between, Skipped, Within}
pub use Rattle.tech_file.specs.declared.outline.Heading.{Heading}
pub use Rattle.tech_file.specs.Places.{content_of, after, is_end, name_alone, opened}
pub use Rattle.tech_file.specs.Outlines.{section_at, headings_from, headings_of, place_after}
pub use Rattle.tech_file.specs.declared.reading.Reading.{Reading}
pub use Rattle.tech_file.specs.Sections.{section_named}
pub use Rattle.tech_file.specs.Reading.{standing, draft_after, read_line}
pub use Rattle.tech_file.specs.Texts.{words_in, with_known, lines_in, section_in, TextSection, IsSection, words_of_all, known_sections, sections_in}
