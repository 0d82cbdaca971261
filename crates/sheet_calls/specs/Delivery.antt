-- A text that is written part by part, whatever the system answers to the calls.
use Rattle.std.specs.Prelude.{◌≡◌, Bool, true, false, List, [], ◌++◌, ℕ}
use Rattle.sheet_calls.specs.Calls.{Sends}

-- what is taken of its parts, one after another; the first that is not written whole is the last
pub data Delivers : List ℕ → List ℕ → Bool → Type 0 where
  all : Delivers [] [] true
  stop : {left text : List ℕ} (rest : List ℕ) → left ≡ text ++ rest → (o : Sends text false) → Delivers left o.taken false
  on :
      {left text rest taken : List ℕ} {whole : Bool} → left ≡ text ++ rest → (o : Sends text true)
      → Delivers rest taken whole → Delivers left (o.taken ++ taken) whole

-- a text was written so
pub record Delivered (text : List ℕ) (whole : Bool) : Type 0 where
  pub taken : List ℕ
  pub delivers : Delivers text taken whole

-- what was taken is the text's beginning, and all of it where the program says so
pub record Written (text taken : List ℕ) (whole : Bool) : Type 0 where
  pub rest : List ℕ
  pub front : text ≡ taken ++ rest
  pub all : whole ≡ true → taken ≡ text

abbrev pub EveryDelivery : Type 0
EveryDelivery = (text : List ℕ) (whole : Bool) (d : Delivered text whole) → Written text d.taken whole
