use Rattle.magex_top.proofs.Common.{◌≡◌, ◌∙◌, ap, subst, refl, [], ◌∷◌, Option, Some, ℕ, arith, is_some, lines_of, Rose, LONGEST_FILE, RunWords}
use Rattle.magex_top.proofs.Common.{words_of, text_of, IsCutShort, Progress, WholeSession, lines_in, Status, WriteFault, is_quiet, usage_text}
use Rattle.magex_top.proofs.Common.{RunLineMeans, first_run, reply}
use Rattle.std.proofs.Common.{List, map, ◌≤◌, ◌<◌, Global, Err, None, string_bytes, length, rules}
use Rattle.outside_io.specs.ToldBytes.{ToldBytes, with_back}
use Rattle.outside_io.specs.declared.faults.ReadAllFault.{ReadAllFault}
use Rattle.session_model.proofs.CountedLaws.{none_counted}
use Rattle.magex_top.specs.declared.status.Status.TheVariants.{Memory, ReadFault, ScriptTooLong}
use Rattle.magex_top.specs.Runs.{IsScriptSession, long_session, usage_session}
use Rattle.magex_top.proofs.RunLaws.{long_run, nothing, nothing_more, nothing_reached, nothing_written, script_reached, script_run, script_written}
use Rattle.magex_top.proofs.RunLaws.{nothing_begins, script_begins, usage_begins, usage_counted, usage_reached, usage_run, usage_written}
use Rattle.magex_top.proofs.top_call.run.Goals as goal

-- ---- words that are not of the form

pub returns-in-Ok-None-clause-meaning : goal.returns-in-Ok-None-clause-meaning
returns-in-Ok-None-clause-meaning g c text before files text_told told files_told ends =
    let words = map (string_bytes {Z = Global}) c.args.words.now in
    let none : words_of words ≡ None = search rules in
    let h = c.write_usage.ensures.meaning ends in
    let lines = reply usage_text ∷ [] in (
      usage_session,
      usage_run words text files none,
      h.0,
      usage_written words _ before lines none (h.1 ∙ ap (λ (t : ToldBytes). with_back t (text_of lines)) told),
      files_told,
      refl,
      usage_counted g.F.Shelf c.args.shelf.now,
    )

pub returns-in-Ok-None-clause-beginning : goal.returns-in-Ok-None-clause-beginning
returns-in-Ok-None-clause-beginning g c text before files text_told told files_told =
    let words = map (string_bytes {Z = Global}) c.args.words.now in
    let none : words_of words ≡ None = search rules in
    let Fails = (c.write_usage.result ≡ WriteFault) × Rose (g.F.Shelf.store_faults c.args.shelf.now) (g.F.Shelf.store_faults c.args.shelf.now) in
    let h = c.write_usage.ensures.beginning before told in
    (h.0, files, usage_reached words text files Fails h.0 none h.1, h.2, files_told)

pub returns-in-Ok-None-clause-begins_each : goal.returns-in-Ok-None-clause-begins_each
returns-in-Ok-None-clause-begins_each g c text before files text_told told files_told =
    let words = map (string_bytes {Z = Global}) c.args.words.now in
    let none : words_of words ≡ None = search rules in
    let Fails = (c.write_usage.result ≡ WriteFault) × Rose (g.F.Shelf.store_faults c.args.shelf.now) (g.F.Shelf.store_faults c.args.shelf.now) in
    let h = c.write_usage.ensures.beginning before told in
    (h.0, files, h.2, files_told, usage_begins words text files Fails h.0 none h.1)

pub returns-in-Ok-None-clause-no_usage : goal.returns-in-Ok-None-clause-no_usage
returns-in-Ok-None-clause-no_usage g c some =
    let words = map (string_bytes {Z = Global}) c.args.words.now in
    let none : words_of words ≡ None = search rules in
    absurd (nothing (words_of words) none some)

pub returns-in-Ok-None-clause-long : goal.returns-in-Ok-None-clause-long
returns-in-Ok-None-clause-long g c text some text_told long =
    let words = map (string_bytes {Z = Global}) c.args.words.now in
    let none : words_of words ≡ None = search rules in
    absurd (nothing (words_of words) none some)

pub returns-in-Ok-None-clause-long_calm : goal.returns-in-Ok-None-clause-long_calm
returns-in-Ok-None-clause-long_calm g c text some text_told long calm =
    let words = map (string_bytes {Z = Global}) c.args.words.now in
    let none : words_of words ≡ None = search rules in
    absurd (nothing (words_of words) none some)

pub returns-in-Ok-None-clause-long_untouched : goal.returns-in-Ok-None-clause-long_untouched
returns-in-Ok-None-clause-long_untouched g c text some text_told long =
    let words = map (string_bytes {Z = Global}) c.args.words.now in
    let none : words_of words ≡ None = search rules in
    absurd (nothing (words_of words) none some)

pub returns-in-Ok-None-clause-complete : goal.returns-in-Ok-None-clause-complete
returns-in-Ok-None-clause-complete g c text some text_told fits read write fetch store =
    let words = map (string_bytes {Z = Global}) c.args.words.now in
    let none : words_of words ≡ None = search rules in
    absurd (nothing (words_of words) none some)

-- ---- words of the form

pub returns-in-Ok-clause-meaning : goal.returns-in-Ok-clause-meaning
returns-in-Ok-clause-meaning g c text before files text_told told files_told ends =
    let words = map (string_bytes {Z = Global}) c.args.words.now in
    let asked = c.in-Ok-Some.asked in
    let is : words_of words ≡ Some asked = search rules in
    let read : c.in-Ok.text.items ≡ text = rw text_told at c.in-Ok.ensures.all in
    let within : length c.in-Ok.text.items ≤ LONGEST_FILE = omega (arith, c.in-Ok.ensures.within, c.in-Ok.text.ok.0) in
    let fits = subst (λ (t : List ℕ). length t ≤ LONGEST_FILE) read within in
    let (session, means, ends_so, reported, stored, asked_for, came) = c.run_script.ensures.meaning before files told files_told ends in
    let is_session = subst (λ (t : List ℕ). IsScriptSession asked.budget t files session) (c.deref.ensures.value ∙ read) means in (
      session,
      script_run words asked text files session is fits is_session,
      ends_so,
      script_written words asked _ before (lines_in session.acts) is reported,
      stored,
      asked_for,
      came,
    )

pub returns-in-Ok-clause-beginning : goal.returns-in-Ok-clause-beginning
returns-in-Ok-clause-beginning g c text before files text_told told files_told =
    let words = map (string_bytes {Z = Global}) c.args.words.now in
    let asked = c.in-Ok-Some.asked in
    let is : words_of words ≡ Some asked = search rules in
    let read : c.in-Ok.text.items ≡ text = rw text_told at c.in-Ok.ensures.all in
    let within : length c.in-Ok.text.items ≤ LONGEST_FILE = omega (arith, c.in-Ok.ensures.within, c.in-Ok.text.ok.0) in
    let fits = subst (λ (t : List ℕ). length t ≤ LONGEST_FILE) read within in
    let Fails = (c.run_script.result ≡ WriteFault) × Rose (g.F.Shelf.store_faults c.args.shelf.now) (g.F.Shelf.store_faults c.run_script.new.shelf) in
    let h = c.run_script.ensures.beginning before files told files_told in
    let reached = subst (λ (t : List ℕ). Progress RunLineMeans asked.quiet Fails (first_run asked.budget) files (lines_of t) h.0 h.1)
    (c.deref.ensures.value ∙ read) h.2 in
    (h.0, h.1, script_reached words asked text files Fails h.0 h.1 is fits reached, h.3, h.4)

pub returns-in-Ok-clause-begins_each : goal.returns-in-Ok-clause-begins_each
returns-in-Ok-clause-begins_each g c text before files text_told told files_told =
    let words = map (string_bytes {Z = Global}) c.args.words.now in
    let asked = c.in-Ok-Some.asked in
    let is : words_of words ≡ Some asked = search rules in
    let read : c.in-Ok.text.items ≡ text = rw text_told at c.in-Ok.ensures.all in
    let within : length c.in-Ok.text.items ≤ LONGEST_FILE = omega (arith, c.in-Ok.ensures.within, c.in-Ok.text.ok.0) in
    let fits = subst (λ (t : List ℕ). length t ≤ LONGEST_FILE) read within in
    let Fails = (c.run_script.result ≡ WriteFault) × Rose (g.F.Shelf.store_faults c.args.shelf.now) (g.F.Shelf.store_faults c.run_script.new.shelf) in
    let h = c.run_script.ensures.begins_each before files told files_told in
    let begins = subst (λ (t : List ℕ). (session : WholeSession Status) → IsScriptSession asked.budget t files session
    → IsCutShort asked.quiet Fails files session.acts h.0 h.1) (c.deref.ensures.value ∙ read) h.4 in
    (h.0, h.1, h.2, h.3, script_begins words asked text files Fails h.0 h.1 is fits begins)

-- a text that was read within the limit is not too long
not_long : (read text : List ℕ) → read ≡ text → length read ≤ LONGEST_FILE → LONGEST_FILE < length text → ⊥
not_long read text is fits long = omega (arith, ap length is, fits, long)

pub returns-in-Ok-clause-long_calm : goal.returns-in-Ok-clause-long_calm
returns-in-Ok-clause-long_calm g c text some text_told long calm =
    let read : c.in-Ok.text.items ≡ text = rw text_told at c.in-Ok.ensures.all in
    absurd (not_long c.in-Ok.text.items text read (omega (arith, c.in-Ok.ensures.within, c.in-Ok.text.ok.0)) long)

pub returns-in-Ok-clause-long_untouched : goal.returns-in-Ok-clause-long_untouched
returns-in-Ok-clause-long_untouched g c text some text_told long =
    let read : c.in-Ok.text.items ≡ text = rw text_told at c.in-Ok.ensures.all in
    absurd (not_long c.in-Ok.text.items text read (omega (arith, c.in-Ok.ensures.within, c.in-Ok.text.ok.0)) long)

pub returns-in-Err-TooLong-clause-meaning : goal.returns-in-Err-TooLong-clause-meaning
returns-in-Err-TooLong-clause-meaning g c text before files text_told told files_told ends =
    let words = map (string_bytes {Z = Global}) c.args.words.now in
    let is : words_of words ≡ Some c.in-Ok-Some.asked = search rules in
    let long = rw text_told at (c.in-Err-TooLong.ensures.too_long (ap (λ (f : ReadAllFault). Err f) c.in-Err-TooLong.field-0-is)) in (
      long_session,
      long_run words c.in-Ok-Some.asked text files is long,
      refl,
      nothing_written words _ before told,
      files_told,
      refl,
      none_counted g.F.Shelf c.args.shelf.now,
    )

pub returns-in-Err-TooLong-clause-too_long : goal.returns-in-Err-TooLong-clause-too_long
returns-in-Err-TooLong-clause-too_long g c long =
    let words = map (string_bytes {Z = Global}) c.args.words.now in
    let is : words_of words ≡ Some c.in-Ok-Some.asked = search rules in
    (ap (λ (found : Option RunWords). is_some found) is, c.in-Err-TooLong.ensures.too_long (ap (λ (f : ReadAllFault). Err f) c.in-Err-TooLong.field-0-is))

pub returns-in-Err-TooLong-clause-begins_each : goal.returns-in-Err-TooLong-clause-begins_each
returns-in-Err-TooLong-clause-begins_each g c text before files text_told told files_told =
    let quiet = is_quiet (map (string_bytes {Z = Global}) c.args.words.now) in
    let Fails = (ScriptTooLong ≡ WriteFault) × Rose (g.F.Shelf.store_faults c.args.shelf.now) (g.F.Shelf.store_faults c.args.shelf.now) in
    ([], files, nothing_more _ before told, files_told, λ session is. nothing_begins quiet Fails files session.acts)

pub returns-in-Err-TooLong-clause-beginning : goal.returns-in-Err-TooLong-clause-beginning
returns-in-Err-TooLong-clause-beginning g c text before files text_told told files_told =
    let words = map (string_bytes {Z = Global}) c.args.words.now in
    let Fails = (ScriptTooLong ≡ WriteFault) × Rose (g.F.Shelf.store_faults c.args.shelf.now) (g.F.Shelf.store_faults c.args.shelf.now) in
    ([], files, nothing_reached words text files Fails, nothing_more _ before told, files_told)

pub returns-in-Err-Failed-clause-begins_each : goal.returns-in-Err-Failed-clause-begins_each
returns-in-Err-Failed-clause-begins_each g c text before files text_told told files_told =
    let quiet = is_quiet (map (string_bytes {Z = Global}) c.args.words.now) in
    let Fails = (ReadFault ≡ WriteFault) × Rose (g.F.Shelf.store_faults c.args.shelf.now) (g.F.Shelf.store_faults c.args.shelf.now) in
    ([], files, nothing_more _ before told, files_told, λ session is. nothing_begins quiet Fails files session.acts)

pub returns-in-Err-Failed-clause-beginning : goal.returns-in-Err-Failed-clause-beginning
returns-in-Err-Failed-clause-beginning g c text before files text_told told files_told =
    let words = map (string_bytes {Z = Global}) c.args.words.now in
    let Fails = (ReadFault ≡ WriteFault) × Rose (g.F.Shelf.store_faults c.args.shelf.now) (g.F.Shelf.store_faults c.args.shelf.now) in
    ([], files, nothing_reached words text files Fails, nothing_more _ before told, files_told)

pub returns-in-Err-Memory-clause-begins_each : goal.returns-in-Err-Memory-clause-begins_each
returns-in-Err-Memory-clause-begins_each g c text before files text_told told files_told =
    let quiet = is_quiet (map (string_bytes {Z = Global}) c.args.words.now) in
    let Fails = (Memory ≡ WriteFault) × Rose (g.F.Shelf.store_faults c.args.shelf.now) (g.F.Shelf.store_faults c.args.shelf.now) in
    ([], files, nothing_more _ before told, files_told, λ session is. nothing_begins quiet Fails files session.acts)

pub returns-in-Err-Memory-clause-beginning : goal.returns-in-Err-Memory-clause-beginning
returns-in-Err-Memory-clause-beginning g c text before files text_told told files_told =
    let words = map (string_bytes {Z = Global}) c.args.words.now in
    let Fails = (Memory ≡ WriteFault) × Rose (g.F.Shelf.store_faults c.args.shelf.now) (g.F.Shelf.store_faults c.args.shelf.now) in
    ([], files, nothing_reached words text files Fails, nothing_more _ before told, files_told)

pub returns-in-Err-clause-beginning : goal.returns-in-Err-clause-beginning
returns-in-Err-clause-beginning g c text before files text_told told files_told =
    let words = map (string_bytes {Z = Global}) c.args.words.now in
    let Fails = (Memory ≡ WriteFault) × Rose (g.F.Shelf.store_faults c.args.shelf.now) (g.F.Shelf.store_faults c.args.shelf.now) in
    ([], files, nothing_reached words text files Fails, nothing_more _ before told, files_told)

pub returns-in-Err-clause-begins_each : goal.returns-in-Err-clause-begins_each
returns-in-Err-clause-begins_each g c text before files text_told told files_told =
    let quiet = is_quiet (map (string_bytes {Z = Global}) c.args.words.now) in
    let Fails = (Memory ≡ WriteFault) × Rose (g.F.Shelf.store_faults c.args.shelf.now) (g.F.Shelf.store_faults c.args.shelf.now) in
    ([], files, nothing_more _ before told, files_told, λ session is. nothing_begins quiet Fails files session.acts)
