-- How the stages of a copy go on after a rule's answer: its refusal handed up, or the rest with what it gave. Only private functions of the
-- copies cite this: no caller need read it.
use Rattle.std.specs.Prelude.{Result, Ok, Err}
use Rattle.refusals.specs.declared.TransferError.{TransferError}

unfoldable pub after : {A B : Type 0} → Result A TransferError → (A → Result B TransferError) → Result B TransferError
after (Ok v) rest = rest v
after (Err e) rest = Err e
