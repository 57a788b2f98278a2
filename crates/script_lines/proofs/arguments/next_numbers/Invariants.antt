use Rattle.script_lines.proofs.Common.{◌≡◌, length, take, drop, map, true, list_all, words_of, behind, number_in, begins_with_numbers, is_fitting}
use Rattle.script_lines.proofs.arguments.next_numbers.Given as goal

abbrev pub invariant-loop-place : goal.invariant-loop-place
invariant-loop-place g l = record {
  size : length l.place-items ≡ g.row.N;
  behind : l.rest.now ≡ behind l.place-index l.initial.rest.now;
  words : words_of l.rest.now ≡ drop l.place-index (words_of l.initial.rest.now);
  formed : begins_with_numbers l.place-index (words_of l.initial.rest.now) ≡ true;
  fit : l.fit ≡ list_all is_fitting (take l.place-index (words_of l.initial.rest.now));
  values : l.fit ≡ true → take l.place-index l.place-items ≡ map number_in (take l.place-index (words_of l.initial.rest.now));
}
