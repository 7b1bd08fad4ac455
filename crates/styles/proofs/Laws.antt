-- Changes of style and of the memories keep sound captions sound. Assumes nothing.
use mathlib.Core.Path.{refl}
use native.Mathlib.Omega.{arith}
use Rattle.page.proofs.Each.{empty_all_of_each, exchanged_of_each}
use Rattle.window.proofs.LawsOfCells.{kept_empty, kept_allowed, kept_free}
use Rattle.state.specs.declared.Mode.{Mode}
use Rattle.state.specs.State.{Captions}
use Rattle.state.specs.Ranges.{Ranged, Sound}
use Rattle.state.proofs.Laws.{styled_ranged, restyled, texted, unmarked}
use Rattle.styles.specs.Styles.{rcl_of, rdc_of, text_of, edm_of, enm_of, eoc_of}

module _ (d : Captions) (h : Sound d) where
  abbrev m : Mode
  m = d.mode

  abbrev r : Ranged m
  r = h.ranged

  pub rcl_of_sound : Sound (rcl_of d)
  unfolding rcl_of
  rcl_of_sound = record {
    ranged = styled_ranged m r 2 0 m.mark m.depth (restyled 2 r.style (omega arith) (λ e. omega arith) (λ e. omega arith));
    fits = h.fits;
    cells = h.cells;
  }

  pub text_of_sound : Sound (text_of d)
  unfolding text_of
  text_of_sound = record { ranged = styled_ranged m r m.style 1 m.mark m.depth (texted r.style); fits = h.fits; cells = h.cells }

  pub rdc_of_sound : Sound (rdc_of d)
  unfolding rdc_of
  rdc_of_sound = record {
    ranged = styled_ranged m r 3 0 0 m.depth (unmarked 3 r.style (omega arith) (λ e. omega arith));
    fits = λ e. omega arith;
    cells = kept_free refl (kept_allowed h.cells);
  }

  pub eoc_of_sound : Sound (eoc_of d)
  unfolding eoc_of
  eoc_of_sound = record {
    ranged = styled_ranged m r 2 0 0 m.depth (unmarked 2 r.style (omega arith) (λ e. omega arith));
    fits = λ e. omega arith;
    cells = kept_free refl (exchanged_of_each (kept_allowed h.cells));
  }

  pub edm_of_sound : Sound (edm_of d)
  unfolding edm_of
  edm_of_sound = record { ranged = r; fits = h.fits; cells = empty_all_of_each 0 0 refl kept_empty h.cells }

  pub enm_of_sound : Sound (enm_of d)
  unfolding enm_of
  enm_of_sound = record { ranged = r; fits = h.fits; cells = empty_all_of_each 960 480 refl kept_empty h.cells }
