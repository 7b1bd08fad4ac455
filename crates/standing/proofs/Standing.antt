-- Demand 3 over any decoder that keeps its laws: the results. That a refusal changes no byte is `refusal` of proofs/Runs.
-- Assumes nothing.
use mathlib.Core.Path.{◌≡◌, ap, sym, subst, ◌∙◌}
use mathlib.Core.List.{List, [], ◌++◌, map}
use mathlib.Core.Bool.{true}
use Prim.Native.Nat.{ℕ, ◌-◌}
use native.Mathlib.Nat.{add-sub_cancel}
use native.Mathlib.Omega.{arith}
use lib.ListN.{length, take, length-append}
use lib.Seq.{take-append_seam}
use Rattle.standing.specs.Acts.{Act}
use Rattle.standing.specs.Decoder.{Decoder, Lawful}
use Rattle.standing.specs.Calls.{Buffers, three, Outcome, done, is_fit, opened, open_of}
use Rattle.standing.specs.Runs.{Ask, give, back, InBytes, Call, alone, applied, call_of, after, Fair, standing, owed, ruled}
use Rattle.standing.specs.Bytes.{desk_of, buffers_of}
use Rattle.standing.proofs.Desks.{Good, desk_sound, count_desk}
use Rattle.standing.proofs.Steps.{opened_buffers, next_call}
use Rattle.standing.proofs.Runs.{meant_bytes, fair_own, ruled_alone, Led, leads}

-- a step back takes the last acts away and keeps the rest
pub back_removes : (acts last : List Act) → applied (acts ++ last) (back (length last)) ≡ acts
back_removes acts last =
    ap (λ (n : ℕ). take (n - length last) (acts ++ last)) (length-append acts last)
    ∙ ap (λ (n : ℕ). take n (acts ++ last)) (add-sub_cancel (length acts) (length last)) ∙ take-append_seam acts last

module _ (D : Decoder) (L : Lawful D) where
  open D use {count, read_of}

  -- opening leaves one and the same desk, whatever the buffers held
  pub newly_opened : (d l t : List ℕ) → is_fit D (three d l t) ≡ true → open_of D d l t ≡ done 0 (opened D)
  unfolding open_of
  newly_opened d l t fit = simp fit

  led : (cs : List Call) → Fair D (opened D) cs → Led D [] (opened D) cs
  led cs fair = leads D L [] (opened D) cs (record { few = omega arith; meant = tt }) (opened_buffers D L) fair

  module _ (acts : List Act) (g : Good D acts) where
    led_alone : Led D [] (opened D) (alone acts)
    led_alone = led (alone acts) (fair_own D (opened D) (map give acts) (meant_bytes acts g.meant))

    rule_alone : ruled D [] (alone acts) ≡ acts
    rule_alone = ruled_alone D [] acts (omega (arith, g.few)) g.meant

  module _ (cs : List Call) (fair : Fair D (opened D) cs) where
    -- the acts that stand after the run
    abbrev stood : List Act
    stood = standing D (opened D) [] cs

    good : Good D stood
    good = subst (Good D) (sym (led cs fair).by_rule) (led cs fair).good

    -- the bytes, said without any call: each standing act is decoded, logged and, where a slot is due, kept
    pub what_stands_is : after D (opened D) cs ≡ buffers_of D stood
    what_stands_is = (led cs fair).bytes ∙ ap (buffers_of D) (sym (led cs fair).by_rule)

    -- the desk's count is the number of acts that stand
    pub what_stands_counts : count (read_of (after D (opened D) cs).desk) ≡ length stood
    what_stands_counts =
        ap (λ (w : Buffers). count (read_of w.desk)) what_stands_is
        ∙ ap count (L.read_of_record_of (desk_of D stood) (desk_sound D L stood good)) ∙ count_desk D L stood good

    -- given alone, none of the acts that stand is refused
    pub what_stands_alone : standing D (opened D) [] (alone stood) ≡ stood
    what_stands_alone = (led_alone stood good).by_rule ∙ rule_alone stood good

    -- the acts that stand by what the calls gave are those that stand by the rule
    pub stands_by_rule : stood ≡ ruled D [] cs
    stands_by_rule = (led cs fair).by_rule

    -- the next call that is lent the own buffers gives what the acts that stand owe: it is refused only where it must be
    pub answers_owed : (a : Ask) → InBytes a → (call_of D (after D (opened D) cs) a).given ≡ owed D stood a
    answers_owed a b =
        ap (λ (w : Buffers). (call_of D w a).given) what_stands_is ∙ ap (λ (o : Outcome). o.given) (next_call D L stood good a b)

  -- DEMAND 3, clause by clause.
  -- "From a newly opened desk,": opened D, by newly-opened.
  -- "after any run of pairs, channel selections and steps back, refused calls among them,": any cs.
  -- "with its own three buffers lent to every call that is not refused": Fair.
  -- "and nobody else writing to them,": after, in which an own buffer changes by a call that is lent it and by nothing else.
  -- "desk, log and tray hold byte for byte": an equation of all three.
  -- "what a newly opened desk would hold had it been given only the pairs and selections": after the run of alone.
  -- "that still stand;": standing, by what each call gave.
  -- "a step back by k removes the last k of those standing.": applied, by back-removes.
  pub what_stands_remains : (cs : List Call) → Fair D (opened D) cs
      → after D (opened D) cs ≡ after D (opened D) (alone (standing D (opened D) [] cs))
  what_stands_remains cs fair =
      let acts = standing D (opened D) [] cs in
      let g = good cs fair in
      what_stands_is cs fair ∙ sym ((led_alone acts g).bytes ∙ ap (buffers_of D) (rule_alone acts g))

  -- two runs after which the same acts stand leave the same bytes
  pub same_standing : (cs ds : List Call) → Fair D (opened D) cs → Fair D (opened D) ds → ruled D [] cs ≡ ruled D [] ds
      → after D (opened D) cs ≡ after D (opened D) ds
  same_standing cs ds f g e = (led cs f).bytes ∙ ap (buffers_of D) e ∙ sym (led ds g).bytes
