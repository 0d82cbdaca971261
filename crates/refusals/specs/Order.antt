-- An order of checks as a list. Each check gives the refusals that it finds, none where it passes; the first that is found is the answer.
use Rattle.std.specs.Prelude.{Bool, true, false, List, [], ◌∷◌, Result, Ok, Err}
use Rattle.refusals.specs.declared.TransferError.{TransferError}

-- what each check of an order finds
abbrev pub Checks : Type 0
Checks = List (List TransferError)

-- a check by one test
unfoldable pub refuse_if : Bool → TransferError → List TransferError
refuse_if true e = e ∷ []
refuse_if false e = []

-- the first refusal found, else the answer
unfoldable pub first : {R : Type 0} → List TransferError → Result R TransferError → Result R TransferError
first [] answer = answer
first (e ∷ es) answer = Err e

-- the first refusal that any check finds, else the answer
unfoldable pub decided : {R : Type 0} → Checks → Result R TransferError → Result R TransferError
decided [] answer = answer
decided (found ∷ checks) answer = first found (decided checks answer)

-- the same of a rule that has nothing else to say
abbrev pub checked : Checks → Result Unit TransferError
checked checks = decided checks (Ok tt)

-- what is said of a value, of an answer that gives one
unfoldable pub mapped : {A B : Type 0} → (A → B) → Result A TransferError → Result B TransferError
mapped f (Ok a) = Ok (f a)
mapped f (Err e) = Err e
