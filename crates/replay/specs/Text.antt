-- Which acts of the log are pairs of text.
-- Paper 01, "Record, log, tray": "1 and the two raw bytes"; "Pair rules, in this order": rules 1, 2 and 4.
-- Assumes nothing.
use Rattle.std.specs.Prelude.{ℕ, Bool, ◌&&◌, eqb}
use Rattle.text.specs.Typed.{is_text}

-- by the act's three bytes; the third has no say
abbrev pub is_text_act : ℕ → ℕ → ℕ → Bool
is_text_act kind x y = eqb kind 1 && is_text x
