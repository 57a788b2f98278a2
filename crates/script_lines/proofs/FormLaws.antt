-- The fields of a command that a line is read as are of their forms.
use Rattle.script_lines.proofs.Common.{◌≡◌, ℕ, suc, ℤ, pos, Bool, true, false, List, [], ◌∷◌, Result, Ok, Err, refl, is_label_text, LAST_POSITION}
use Rattle.script_lines.proofs.Common.{LineFault, ArgumentKind, Plain, Layer, UseId, Number, Position, Count, Text, Argument, is_between, is_formed}
use Rattle.script_lines.proofs.Common.{command_with, given_to}
use Rattle.std.proofs.Common.{subst}
use Rattle.std.specs.Prelude.{IsTrue}
use Rattle.std.proofs.lemmas.List.Elements.{All-nil, All-cons}
use Rattle.cell_bodies.specs.Words.{is_use_id}
use Rattle.script_lines.specs.declared.commands.Command.{Command}
use Rattle.script_lines.specs.declared.limits.TheConstants.{MOST_GENERATED}
use Rattle.script_lines.specs.declared.verbs.Verb.{Verb}
use Rattle.script_lines.specs.declared.verbs.Verb.TheVariants as verb
use Rattle.script_lines.specs.Arguments.{is_in_range, argument_of, are_formed, are_in_range, arguments_of, read_words, words_for, word_at, value_at}
use Rattle.script_lines.specs.Commands.{kinds_of, command_on}
use Rattle.script_lines.specs.Forms.{IsNumber, IsPlain, AreSixNumbers, IsFormed}
use Rattle.script_lines.proofs.FrontLaws.{first, second}
use Rattle.script_lines.proofs.ReadLaws.{judged}

-- ---- arguments of their kinds

-- the argument at a place is what an argument of this kind may be
abbrev IsGivenAt : ArgumentKind → ℕ → List Argument → Type 0
IsGivenAt Plain place given = IsPlain (word_at place given)
IsGivenAt Layer place given = Unit {0}
IsGivenAt UseId place given = IsTrue (is_use_id (word_at place given))
IsGivenAt Number place given = IsNumber (value_at place given)
IsGivenAt Position place given = IsTrue (is_between (pos 0) (pos LAST_POSITION) (value_at place given))
IsGivenAt Count place given = IsTrue (is_between (pos 1) MOST_GENERATED (value_at place given))
IsGivenAt Text place given = IsTrue (is_label_text (word_at place given))

-- the arguments from a place on are what arguments of these kinds may be
abbrev AreGivenFrom : List ArgumentKind → ℕ → List Argument → Type 0
AreGivenFrom [] place given = Unit {0}
AreGivenFrom (kind ∷ kinds) place given = IsGivenAt kind place given × AreGivenFrom kinds (suc place) given

given_later : (kind : ArgumentKind) (place : ℕ) (argument : Argument) (given : List Argument) → IsGivenAt kind place given →
    IsGivenAt kind (suc place) (argument ∷ given)
given_later Plain place argument given is = is
given_later Layer place argument given is = is
given_later UseId place argument given is = is
given_later Number place argument given is = is
given_later Position place argument given is = is
given_later Count place argument given is = is
given_later Text place argument given is = is

all_given_later : (kinds : List ArgumentKind) (place : ℕ) (argument : Argument) (given : List Argument) → AreGivenFrom kinds place given →
    AreGivenFrom kinds (suc place) (argument ∷ given)
all_given_later [] place argument given are = tt
all_given_later (kind ∷ kinds) place argument given are =
    (given_later kind place argument given are.0, all_given_later kinds (suc place) argument given are.1)

given_first : (kind : ArgumentKind) (word : List ℕ) (given : List Argument) → is_formed kind word ≡ true → is_in_range kind word ≡ true →
    IsGivenAt kind 0 (argument_of kind word ∷ given)
given_first Plain word given formed fit = formed
given_first Layer word given formed fit = tt
given_first UseId word given formed fit = formed
given_first Number word given formed fit = fit
given_first Position word given formed fit = fit
given_first Count word given formed fit = fit
given_first Text word given formed fit = formed

-- words that are of their forms and in their ranges give such arguments
are_given : (kinds : List ArgumentKind) (words : List (List ℕ)) → are_formed kinds words ≡ true → are_in_range kinds words ≡ true →
    AreGivenFrom kinds 0 (arguments_of kinds words)
are_given [] words formed fit = tt
are_given (kind ∷ kinds) [] formed fit = absurd (cc)
are_given (kind ∷ kinds) (word ∷ words) formed fit = (
  given_first kind word (arguments_of kinds words) (first (is_formed kind word) (are_formed kinds words) formed)
      (first (is_in_range kind word) (are_in_range kinds words) fit),
  all_given_later kinds 0 (argument_of kind word) (arguments_of kinds words)
      (are_given kinds words (second (is_formed kind word) (are_formed kinds words) formed)
      (second (is_in_range kind word) (are_in_range kinds words) fit)),
)

judged_ok : (a b : Bool) (given all : List Argument) → judged a b given ≡ Ok all → (a ≡ true) × (b ≡ true) × (given ≡ all)
judged_ok true true given all e = (refl, refl, cc)
judged_ok true false given all e = cc
judged_ok false b given all e = cc

-- so do words that are read
read_given : (kinds : List ArgumentKind) (words : List (List ℕ)) (given : List Argument) → read_words kinds words ≡ Ok given →
    AreGivenFrom kinds 0 given
unfolding read_words
read_given kinds words given e =
    let parts = judged_ok (are_formed kinds words) (are_in_range kinds words) (arguments_of kinds words) given e in
    subst (AreGivenFrom kinds 0) parts.2 (are_given kinds words parts.0 parts.1)

-- ---- the command with them

six_formed : (a b c d e f : ℤ) → IsNumber a → IsNumber b → IsNumber c → IsNumber d → IsNumber e → IsNumber f →
    AreSixNumbers (a ∷ b ∷ c ∷ d ∷ e ∷ f ∷ [])
six_formed a b c d e f ia ib ic id ie last = record {
  count = refl;
  each = All-cons IsNumber a (b ∷ c ∷ d ∷ e ∷ f ∷ []) ia (All-cons IsNumber b (c ∷ d ∷ e ∷ f ∷ []) ib (All-cons IsNumber c (d ∷ e ∷ f ∷ []) ic
      (All-cons IsNumber d (e ∷ f ∷ []) id (All-cons IsNumber e (f ∷ []) ie (All-cons IsNumber f [] last (All-nil IsNumber))))));
}

formed_with : (verb : Verb) (given : List Argument) → AreGivenFrom (kinds_of verb) 0 given → IsFormed (command_with verb given)
formed_with verb.Tech given are = are.0
formed_with verb.Load given are = are.0
formed_with verb.New given are = are.0
formed_with verb.Edit given are = are.0
formed_with verb.Paint given are =
    let xs = are.1 in
    record { xlo = xs.0; ylo = xs.1.0; xhi = xs.1.1.0; yhi = xs.1.1.1.0 }
formed_with verb.Erase given are =
    let xs = are.1 in
    record { xlo = xs.0; ylo = xs.1.0; xhi = xs.1.1.0; yhi = xs.1.1.1.0 }
formed_with verb.Place given are =
    let xs = are.1.1 in (
      are.0,
      are.1.0,
      six_formed (value_at 2 given) (value_at 3 given) (value_at 4 given) (value_at 5 given) (value_at 6 given) (value_at 7 given) xs.0 xs.1.0
          xs.1.1.0
          xs.1.1.1.0 xs.1.1.1.1.0 xs.1.1.1.1.1.0,
    )
formed_with verb.Array given are =
    let xs = are.1 in (
      are.0,
      six_formed (value_at 1 given) (value_at 2 given) (value_at 3 given) (value_at 4 given) (value_at 5 given) (value_at 6 given) xs.0 xs.1.0
          xs.1.1.0
          xs.1.1.1.0 xs.1.1.1.1.0 xs.1.1.1.1.1.0,
    )
formed_with verb.Move given are = (are.0, are.1.0, are.1.1.0)
formed_with verb.Delete given are = are.0
formed_with verb.Label given are =
    let xs = are.1 in
    (record { xlo = xs.0; ylo = xs.1.0; xhi = xs.1.1.0; yhi = xs.1.1.1.0 }, xs.1.1.1.1.0, xs.1.1.1.1.1.0)
formed_with verb.Unlabel given are = are.0
formed_with verb.Undo given are = tt
formed_with verb.Redo given are = tt
formed_with verb.Save given are = are.0
formed_with verb.Nodes given are = are.0
formed_with verb.Squares given are = are.0
formed_with verb.Drc given are = (are.0, are.1.0)
formed_with verb.Cif given are = are.0
formed_with verb.Cifstat given are = are.0
formed_with verb.Extract given are = are.0
formed_with verb.Flat given are = are.0
formed_with verb.Sim given are = are.0
formed_with verb.Vectors given are = (are.0, are.1.0)
formed_with verb.Grade given are = (are.0, are.1.0)
formed_with verb.Generate given are = are.0
formed_with verb.Ext2sim given are = are.0
formed_with verb.Simrun given are = (are.0, are.1.0)

on_given : (verb : Verb) (read : Result (List Argument) LineFault) (command : Command) → given_to (command_with verb) read ≡ Ok command →
    ((given : List Argument) → read ≡ Ok given → AreGivenFrom (kinds_of verb) 0 given) → IsFormed command
on_given verb (Ok given) command e known =
    let same : command_with verb given ≡ command = cc in
    subst IsFormed same (formed_with verb given (known given refl))
on_given verb (Err fault) command e known = absurd (cc)

-- The command of what follows a verb has fields of their forms.
pub command_on_formed : (verb : Verb) (line : List ℕ) (command : Command) → command_on verb line ≡ Ok command → IsFormed command
command_on_formed verb line command e =
    on_given verb (read_words (kinds_of verb) (words_for (kinds_of verb) line)) command e
    (read_given (kinds_of verb) (words_for (kinds_of verb) line))
