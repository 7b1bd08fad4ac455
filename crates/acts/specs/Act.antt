-- What each code does, and which codes act only with a style set and Text off.
-- Paper 01, "What the codes do"; 47 CFR 15.119 (f) to (i).
-- Assumes nothing.
use Rattle.std.specs.Prelude.{Bool, true, false}
use Rattle.facts.specs.Choice.{pick}
use Rattle.cell.specs.Cursor.{cursor}
use Rattle.codes.specs.declared.Code.{Code}
use Rattle.codes.specs.declared.Code.TheVariants.{Unassigned, MidRow, Special, Tab, Preamble, Rcl, Bs, Der, Ru, Fon, Rdc, Tr, Rtd, Edm, Cr, Enm, Eoc}
use Rattle.state.specs.State.{Captions}
use Rattle.state.specs.Style.{is_ready}
use Rattle.typing.specs.Typing.{write_of, mid_row_of, fon_of}
use Rattle.placing.specs.Placing.{bs_of, der_of, tabbed_of, preamble_of}
use Rattle.styles.specs.Styles.{rcl_of, rdc_of, text_of, edm_of, enm_of, eoc_of}
use Rattle.rollup.specs.Rollup.{ru_of, cr_of}

-- "Preamble, mid-row, special, tab, BS, DER, FON and CR act only with a style set and Text off."
abbrev pub is_gated : Code → Bool
is_gated (Preamble row column pen) = true
is_gated (MidRow b) = true
is_gated (Special code) = true
is_gated (Tab n) = true
is_gated Bs = true
is_gated Der = true
is_gated Fon = true
is_gated Cr = true
is_gated Unassigned = false
is_gated Rcl = false
is_gated Rdc = false
is_gated (Ru n) = false
is_gated Eoc = false
is_gated Tr = false
is_gated Rtd = false
is_gated Edm = false
is_gated Enm = false

unfoldable pub gated : Captions → Captions → Captions
gated d e = pick (is_ready d.mode) e d

-- one line a code, with no gate
abbrev pub done_of : Captions → Code → Captions
done_of d (Preamble row column pen) = preamble_of d (cursor row column pen)
done_of d (MidRow b) = mid_row_of d b
done_of d (Special code) = write_of d code
done_of d (Tab n) = tabbed_of d n
done_of d Bs = bs_of d
done_of d Der = der_of d
done_of d Fon = fon_of d
done_of d Cr = cr_of d
done_of d Unassigned = d
done_of d Rcl = rcl_of d
done_of d Rdc = rdc_of d
done_of d (Ru n) = ru_of d n
done_of d Eoc = eoc_of d
done_of d Tr = text_of d
done_of d Rtd = text_of d
done_of d Edm = edm_of d
done_of d Enm = enm_of d

unfoldable pub act_of : Captions → Code → Captions
act_of d code = pick (is_gated code) (gated d (done_of d code)) (done_of d code)
