-- Every act keeps sound captions sound. Assumes nothing.
use mathlib.Core.Path.{◌≡◌, refl}
use mathlib.Core.Bool.{Bool, true, false, not, ◌&&◌}
use Prim.Native.Nat.{ℕ, ◌≤◌}
use native.Mathlib.Omega.{arith}
use borrow.Author.Tests.{not-true}
use Rattle.facts.specs.Choice.{pick}
use Rattle.facts.proofs.Choice.{pick_cases, and_left, and_right}
use Rattle.cell.specs.Cursor.{cursor}
use Rattle.codes.specs.declared.Code.{Code}
use Rattle.codes.specs.declared.Code.TheVariants.{Unassigned, MidRow, Special, Tab, Preamble, Rcl, Bs, Der, Ru, Fon, Rdc, Tr, Rtd, Edm, Cr, Enm, Eoc}
use Rattle.codes.specs.Proper.{Proper}
use Rattle.state.specs.State.{Captions}
use Rattle.state.specs.Style.{is_ready}
use Rattle.state.specs.Ranges.{Sound}
use Rattle.state.proofs.Laws.{is_ready_live}
use Rattle.typing.proofs.Laws.{write_of_sound, mid_row_of_sound, fon_of_sound}
use Rattle.placing.proofs.Laws.{bs_of_sound, der_of_sound, tabbed_of_sound, preamble_of_sound}
use Rattle.styles.proofs.Laws.{rcl_of_sound, rdc_of_sound, text_of_sound, edm_of_sound, enm_of_sound, eoc_of_sound}
use Rattle.rollup.proofs.Laws.{ru_of_sound, cr_of_sound}
use Rattle.acts.specs.Act.{is_gated, gated, done_of, act_of}

-- Every code.

done_sound : (d : Captions) (code : Code) → Proper code → (is_gated code ≡ true → 1 ≤ d.mode.style) → Sound d → Sound (done_of d code)
done_sound d (Preamble row column pen) p live h = preamble_of_sound d h (cursor row column pen) (record { place = p.0; pen = p.1 })
done_sound d (MidRow b) p live h = mid_row_of_sound d h (live refl) b p.0 p.1
done_sound d (Special code) p live h = let low = p.0 in write_of_sound d h code p.2 (omega arith) (live refl)
done_sound d (Tab n) p live h = tabbed_of_sound d h n
done_sound d Bs p live h = bs_of_sound d h (live refl)
done_sound d Der p live h = der_of_sound d h (live refl)
done_sound d Fon p live h = fon_of_sound d h (live refl)
done_sound d Cr p live h = cr_of_sound d h
done_sound d Unassigned p live h = h
done_sound d Rcl p live h = rcl_of_sound d h
done_sound d Rdc p live h = rdc_of_sound d h
done_sound d (Ru n) p live h = ru_of_sound d n h p.0 p.1
done_sound d Eoc p live h = eoc_of_sound d h
done_sound d Tr p live h = text_of_sound d h
done_sound d Rtd p live h = text_of_sound d h
done_sound d Edm p live h = edm_of_sound d h
done_sound d Enm p live h = enm_of_sound d h

pub gated_sound : (d e : Captions) → Sound d → (1 ≤ d.mode.style → Sound e) → Sound (gated d e)
unfolding gated
gated_sound d e h f = pick_cases Sound (is_ready d.mode) (λ t. f (is_ready_live d.mode t)) (λ t. h)

-- A code that the gate shuts out does nothing; any other does what it does.

pick_gate : {A : Type 0} (g r : Bool) (d e : A) → (g && not r) ≡ false → pick g (pick r e d) e ≡ e
pick_gate true true d e t = refl
pick_gate true false d e t = cc
pick_gate false r d e t = refl

pub act_of_shut : (d : Captions) (code : Code) → (is_gated code && not (is_ready d.mode)) ≡ true → act_of d code ≡ d
unfolding act_of gated
act_of_shut d code t =
    let r = is_ready d.mode in
    rw (and_left (is_gated code) (not r) t, not-true r (and_right (is_gated code) (not r) t))

pub act_of_open : (d : Captions) (code : Code) → (is_gated code && not (is_ready d.mode)) ≡ false → act_of d code ≡ done_of d code
unfolding act_of gated
act_of_open d code t = pick_gate (is_gated code) (is_ready d.mode) d (done_of d code) t

pub act_of_sound : (d : Captions) (code : Code) → Proper code → Sound d → Sound (act_of d code)
unfolding act_of
act_of_sound d code p h =
    pick_cases Sound (is_gated code) (λ t. gated_sound d (done_of d code) h (λ live. done_sound d code p (λ g. live) h))
    (λ t. done_sound d code p (λ g. let wrong : ◌≡◌ {A = ℕ} 0 1 = cc in omega arith) h)
