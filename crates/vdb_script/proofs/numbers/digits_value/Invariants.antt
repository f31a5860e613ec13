use Rattle.std.proofs.Common.{◌≡◌, min, true, take}
use Rattle.std.specs.List.{list_all}
use Rattle.std.specs.Char.{is_ascii_digit}
use Rattle.vdb_script.specs.Grammar.{digits_value}
use Rattle.vdb_script.proofs.numbers.digits_value.Given as goal

-- the digits so far
abbrev pub invariant-loop-digit : goal.invariant-loop-digit
invariant-loop-digit l = record {
  digits : list_all is_ascii_digit (take l.digit-index l.digits) ≡ true;
  value : l.value ≡ min (digits_value (take l.digit-index l.digits)) 18446744073709551615;
}
