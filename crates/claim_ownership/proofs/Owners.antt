-- Who owns a byte of an accepted copy with no size of 0.
-- Assumes nothing.
use mathlib.Core.Path.{◌≡◌, ap, ◌∙◌}
use mathlib.Core.Bool.{true, ◌&&◌, ◌||◌}
use mathlib.Core.Logic.{◌⊎◌, inl, inr, ⊎_elim}
use Prim.Native.Nat.{ℕ, ◌+◌, ◌-◌, ◌*◌, ◌^◌, ◌≤◌, ◌<◌}
use native.Mathlib.Omega.{arith}
use native.Mathlib.Nat.{zero-mul, eq-zero-or-pos}
use lib.Dec.{eqb, leb}
use borrow.Author.Tests.{eqb-true, leb-true, ne_eqb}
use Rattle.conditions.proofs.Rules.{both_true, either}
use Rattle.copy_buffer_texture.specs.Copy.{Copy}
use Rattle.claim_ownership.specs.Copy.{byte_size, depth, block, bytes, wide, high, dense, row, rows, image, image_bytes_of, total}
use Rattle.claim_ownership.specs.Ranges.{contiguous}
use Rattle.claim_ownership.specs.Demand3.{Block, Owns, Owned, first_byte}
use Rattle.claim_ownership.proofs.Blocks as blocks
use Rattle.claim_ownership.proofs.Sound.{Sound}

pos_left : (q b n : ℕ) → q * b ≡ n → 0 < n → 0 < q
pos_left q b n e h = ⊎_elim (λ z. absurd (omega (arith, e, ap (λ (k : ℕ). k * b) z, zero-mul b))) (λ p. p) (eq-zero-or-pos q)

module _ (c : Copy) (s : Sound c) (pw : 0 < c.size.width.0) (ph : 0 < c.size.height.0) (pd : 0 < depth c) where
  pub wide_pos : 0 < wide c
  wide_pos = pos_left (wide c) (block c) c.size.width.0 s.w_whole pw

  pub high_pos : 0 < high c
  high_pos = pos_left (high c) (block c) c.size.height.0 s.h_whole ph

  image_bytes_of_lem : image_bytes_of c ≡ (high c - 1) * row c + dense c
  unfolding image_bytes_of
  image_bytes_of_lem = rw (ne_eqb (high c) 0 (λ e. omega (arith, high_pos)))

  pub the_total : total c ≡ (depth c - 1) * image c + ((high c - 1) * row c + dense c)
  unfolding total
  the_total = rw (ne_eqb (depth c) 0 (λ e. omega arith), image_bytes_of_lem)

  pub owner : (byte : ℕ) (b b' : Block) → Owns c b byte → Owns c b' byte → b ≡ b'
  unfolding first_byte
  owner byte b b' o o' =
      let p = blocks.one_owner c.layout.offset (bytes c) (wide c) (high c) (depth c) (rows c) (row c) s.fit s.tall byte b.i b.j b.k b'.i b'.j b'.k o.boxed.0 o.boxed.1 o.from o.before o'.boxed.0 o'.boxed.1 o'.from o'.before in
      λ n. record { i = p.0 n; j = p.1 n; k = p.2 n }

  pub inside : (byte : ℕ) (b : Block) → Owns c b byte → (c.layout.offset ≤ byte) × (byte < c.layout.offset + total c) × (byte < byte_size c.direction)
  unfolding first_byte
  inside byte b o =
      let h = blocks.inside c.layout.offset (bytes c) (wide c) (high c) (depth c) (rows c) (row c) b.i b.j b.k o.boxed.0 o.boxed.1 o.boxed.2 in
      let e = s.end in
      omega (arith, the_total)

  -- the first byte of an image is owned, so it lies below the last number of 64 bits
  pub image_below : (k : ℕ) → k < depth c → c.layout.offset + k * image c < 2 ^ 64 - 1
  unfolding first_byte
  image_below k h =
      let b : Block = record { i = 0; j = 0; k = k } in
      let o : Owns c b (first_byte c b) = record { boxed = (wide_pos, high_pos, h); from = omega arith; before = omega (arith, s.bytes_pos) } in
      omega (arith, (inside (first_byte c b) b o).2, s.small, zero-mul (row c), zero-mul (bytes c))

  whole_rows : row c ≡ dense c → image c ≡ image_bytes_of c → image c ≡ high c * dense c
  whole_rows r e = e ∙ image_bytes_of_lem ∙ ap (λ (x : ℕ). (high c - 1) * x + dense c) r ∙ blocks.pred_mul (high c) (dense c) high_pos

  -- nothing pads the rows or the images
  unpadded : contiguous c ≡ true → ((depth c ≤ 1) ⊎ (image c ≡ high c * dense c)) × ((high c ≤ 1) ⊎ (row c ≡ dense c))
  unfolding contiguous
  unpadded e =
      let p = both_true (eqb (row c) (dense c) || (leb (high c) 1 && leb (depth c) 1)) (eqb (image c) (image_bytes_of c) || leb (depth c) 1) e in
      go (either _ _ p.0) (either _ _ p.1)
    where
      go :
          (eqb (row c) (dense c) ≡ true) ⊎ ((leb (high c) 1 && leb (depth c) 1) ≡ true)
          → (eqb (image c) (image_bytes_of c) ≡ true) ⊎ (leb (depth c) 1 ≡ true)
          → ((depth c ≤ 1) ⊎ (image c ≡ high c * dense c)) × ((high c ≤ 1) ⊎ (row c ≡ dense c))
      go (inl r) (inl i) = (inr (whole_rows (eqb-true _ _ r) (eqb-true _ _ i)), inr (eqb-true _ _ r))
      go (inl r) (inr d) = (inl (leb-true _ _ d), inr (eqb-true _ _ r))
      go (inr m) i = let q = both_true _ _ m in (inl (leb-true _ _ q.1), inl (leb-true _ _ q.0))

  -- so every byte of the span is owned
  pub full : contiguous c ≡ true → (byte : ℕ) → c.layout.offset ≤ byte → byte < c.layout.offset + total c → Owned c byte
  unfolding first_byte
  full e byte lo up =
      let u = unpadded e in
      let f = blocks.full c.layout.offset (bytes c) (wide c) (high c) (depth c) (rows c) (row c) s.bytes_pos wide_pos high_pos pd u.0 u.1 byte lo (omega (arith, the_total)) in
      (record { i = f.i; j = f.j; k = f.k }, record { boxed = (f.i_in, f.j_in, f.k_in); from = f.from; before = f.before })
