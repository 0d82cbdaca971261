-- What a field may hold, by its kind: the least value, the largest, and whether `-` may stand there.
use Rattle.std.specs.Prelude.{Bool, true, false, ℕ, ◌-◌, ◌^◌}
use Rattle.sheet_fields.specs.declared.Rule.{Rule}
use Rattle.sheet_fields.specs.declared.FieldKind.{FieldKind}
use Rattle.sheet_fields.specs.declared.FieldKind.TheVariants.{Word, Long, WordOrDash, LongOrDash, Aspect, Fact, CopyKind, Count}

abbrev pub rule : ℕ → ℕ → Bool → Rule
rule least most dash = record { least = least; most = most; dash = dash }

-- numbers of 32 and of 64 bits, the same where they may be absent; an aspect, a device's fact, a copy's kind, a count;
-- which counts a section allows is the section's matter
unfoldable pub rule_of : FieldKind → Rule
rule_of Word = rule 0 (2 ^ 32 - 1) false
rule_of Long = rule 0 (2 ^ 64 - 1) false
rule_of WordOrDash = rule 0 (2 ^ 32 - 1) true
rule_of LongOrDash = rule 0 (2 ^ 64 - 1) true
rule_of Aspect = rule 0 5 false
rule_of Fact = rule 0 1 false
rule_of CopyKind = rule 1 5 false
rule_of Count = rule 0 256 false
