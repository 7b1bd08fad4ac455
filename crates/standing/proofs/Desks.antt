-- The desks that acts lead to: they are sound and count their acts, and a replay of the log leads to them again. Assumes nothing.
use mathlib.Core.Path.{◌≡◌, refl, ap, sym, ◌∙◌}
use mathlib.Core.List.{List, [], ◌∷◌, ◌++◌}
use Prim.Native.Nat.{ℕ, zero, suc, ◌+◌, ◌<◌, ◌≤◌}
use native.Mathlib.Nat.{add-zero, add-suc}
use native.Mathlib.Omega.{arith}
use lib.ListN.{length, get_or, take, length-append, length-take}
use lib.Seq.{take-suc}
use Rattle.standing.specs.Acts.{Act, pair, Meant}
use Rattle.standing.specs.Decoder.{Decoder, Lawful}
use Rattle.standing.specs.Calls.{replay_of}
use Rattle.standing.specs.Bytes.{blocks, entry_at, run, desk_of}
use Rattle.standing.proofs.Acts.{AllMeant, meant_take, meant_snoc, act_at_log}

module _ (D : Decoder) where
  open D use {Desk, fresh, step, count, limit}

  -- acts that can stand together
  pub record Good (acts : List Act) : Type 0 where
    pub few : length acts ≤ limit
    pub meant : AllMeant acts

  pub good_take : (m : ℕ) (acts : List Act) → Good acts → Good (take m acts)
  good_take m acts g = record { few = omega (arith, length-take m acts, g.few); meant = meant_take m acts g.meant }

  pub good_snoc : (acts : List Act) (a : Act) → Good acts → length acts < limit → Meant a → Good (acts ++ a ∷ [])
  good_snoc acts a g h k = record { few = omega (arith, length-append acts (a ∷ [])); meant = meant_snoc acts a g.meant k }

  pub run_snoc : (d : Desk) (acts : List Act) (a : Act) → run D d (acts ++ a ∷ []) ≡ step (run D d acts) a
  run_snoc d [] a = refl
  run_snoc d (b ∷ acts) a = run_snoc (step d b) acts a

  -- a replay of the log leads where the acts led
  pub replay_log : (acts : List Act) (from n : ℕ) → from + n ≤ length acts → length acts ≤ limit
      → replay_of D (desk_of D (take from acts)) (blocks (entry_at acts) limit) from n ≡ desk_of D (take (from + n) acts)
  unfolding replay_of
  replay_log acts from zero h k = ap (λ (m : ℕ). desk_of D (take m acts)) (sym (add-zero from))
  replay_log acts from (suc n) h k =
      let e = replay_log acts from n (omega arith) k in
      let f = act_at_log limit acts (from + n) (omega arith) k in
      (λ j. step (e j) (f j)) ∙ sym (run_snoc fresh (take (from + n) acts) (get_or acts (from + n) (pair 0 0)))
      ∙ ap (desk_of D) (sym (take-suc acts (from + n) (pair 0 0) (omega arith))) ∙ ap (λ (m : ℕ). desk_of D (take m acts)) (sym (add-suc from n))

  module _ (L : Lawful D) where
    open L use {Sound, fresh_sound, count_fresh, step_keeps_sound, count_step}

    run_sound : (d : Desk) (acts : List Act) → Sound d → count d + length acts ≤ limit → AllMeant acts
        → Sound (run D d acts) × (count (run D d acts) ≡ count d + length acts)
    run_sound d [] s h k = (s, sym (add-zero (count d)))
    run_sound d (a ∷ acts) s h k =
        let c = count_step d a s (omega arith) k.0 in
        let r = run_sound (step d a) acts (step_keeps_sound d a s (omega arith) k.0) (omega arith) k.1 in
        (r.0, omega arith)

    module _ (acts : List Act) (g : Good acts) where
      pub desk_sound : Sound (desk_of D acts)
      desk_sound = (run_sound fresh acts fresh_sound (omega (arith, count_fresh, g.few)) g.meant).0

      pub count_desk : count (desk_of D acts) ≡ length acts
      count_desk = let r = run_sound fresh acts fresh_sound (omega (arith, count_fresh, g.few)) g.meant in omega (arith, r.1, count_fresh)
