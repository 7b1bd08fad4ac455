-- Pairs and what they say, worked out, and how many are assigned. Assumes nothing.
use mathlib.Core.Path.{◌≡◌, refl, ap, ◌∙◌}
use mathlib.Core.Bool.{false}
use Prim.Native.Nat.{ℕ, zero, suc, ◌+◌, ◌<◌, ◌≤◌}
use native.Mathlib.Nat.{add-zero}
use native.Mathlib.Omega.{arith}
use Rattle.facts.proofs.Choice.{same_test}
use Rattle.cell.specs.Place.{row_number, column_number}
use Rattle.cell.specs.Pen.{one, pack_of, of_preamble}
use Rattle.cell.specs.Cursor.{preamble_column_of}
use Rattle.codes.specs.declared.Code.TheVariants.{Unassigned, Special, Preamble, Cr}
use Rattle.codes.specs.Rows.{preamble_row_of}
use Rattle.codes.specs.Codes.{channel_of, without_channel_of, mid_row_or_special_of, tab_offset_of, preamble_code_of, channel_one_code_of, code_of}
use Rattle.codes.specs.Assigned.{is_assigned}
use Rattle.codes.proofs.Laws.{is_assigned_facts}

abbrev pub summed : (ℕ → ℕ) → ℕ → ℕ
summed f zero = 0
summed f (suc n) = summed f n + f n

-- numbers that are 0 add nothing
summed_none : (f : ℕ → ℕ) (n : ℕ) → ((k : ℕ) → k < n → f k ≡ 0) → summed f n ≡ 0
summed_none f zero z = refl
summed_none f (suc n) z = λ i. summed_none f n (λ k h. z k (omega arith)) i + z n (omega arith) i

summed_first : (f : ℕ → ℕ) (n m : ℕ) → ((k : ℕ) → n ≤ k → k < n + m → f k ≡ 0) → summed f (n + m) ≡ summed f n
summed_first f n zero z = let e : n + 0 ≡ n = omega arith in ap (summed f) e
summed_first f n (suc m) z =
    let e : n + suc m ≡ suc (n + m) = omega arith in
    ap (summed f) e
    ∙ (λ i. summed_first f n m (λ k low high. z k low (omega arith)) i + z (n + m) (omega arith) (omega arith) i)
    ∙ add-zero (summed f n)

-- no pair with a above 1Fh is assigned
none_above : (a b : ℕ) → 0x20 ≤ a → one (is_assigned a b) ≡ 0
none_above a b high = ap one (same_test (is_assigned a b) false (λ t. let facts = is_assigned_facts a b t in absurd (omega arith)) (λ t. cc))

abbrev assigned_with : ℕ → ℕ
assigned_with a = summed (λ b. one (is_assigned a b)) 256

assigned_low : summed assigned_with 0x20 ≡ 1058
unfolding is_assigned code_of without_channel_of channel_one_code_of mid_row_or_special_of tab_offset_of preamble_code_of preamble_row_of
assigned_low = refl

-- Of all pairs of bytes 1,058 are assigned. A channel has 16 mid-row codes, 16 special characters, 3 tabs, 14 codes of 14h, and in each
-- of 15 rows 32 preambles: 16 + 16 + 3 + 14 + 15 * 32 = 529. There are two channels.
pub assigned_count : summed (λ a. summed (λ b. one (is_assigned a b)) 256) 256 ≡ 1058
assigned_count = summed_first assigned_with 0x20 224 (λ a high h. summed_none (λ b. one (is_assigned a b)) 256 (λ b l. none_above a b high)) ∙ assigned_low

-- 94FE of P4, without its parity bits: row 15, indent 28, white, no underline
last_indent : code_of 0x14 0x7e ≡ Preamble (row_number 15) (column_number 29) 0
unfolding code_of without_channel_of channel_one_code_of preamble_code_of preamble_row_of preamble_column_of of_preamble pack_of
last_indent = refl

-- 10E0 of P12: row 11 has no neighbour
no_row_beside_eleven : code_of 0x10 0x60 ≡ Unassigned
unfolding code_of without_channel_of channel_one_code_of preamble_code_of preamble_row_of
no_row_beside_eleven = refl

-- "99h is the transparent space."
transparent_space : code_of 0x11 0x39 ≡ Special 0x99
unfolding code_of without_channel_of channel_one_code_of mid_row_or_special_of
transparent_space = refl

-- 1C2D is channel 2's carriage return
carriage_return_of_two : (channel_of 0x1c ≡ 2) × (code_of 0x1c 0x2d ≡ Cr)
unfolding channel_of code_of without_channel_of channel_one_code_of
carriage_return_of_two = (refl, refl)
