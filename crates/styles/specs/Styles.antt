-- What sets the style and empties or exchanges the memories: loading, painting, Text, erasing and the end of a caption.
-- Paper 01, "What the codes do": RCL, RDC, TR, RTD, EDM, ENM and EOC; 47 CFR 15.119 (f)(2) and (3).
-- Assumes nothing.
use Rattle.page.specs.Page.{displayed, non_displayed, empty_all_of, exchanged_of}
use Rattle.state.specs.State.{Captions, captions}
use Rattle.state.specs.Style.{pop_on, paint_on, styled}

-- "RCL: pop-on." It ends Text.
unfoldable pub rcl_of : Captions → Captions
rcl_of d = captions (styled d.mode pop_on 0 d.mode.mark d.mode.depth) d.cells

-- "RDC: paint-on, and the roll-up mark is cleared." It ends Text.
unfoldable pub rdc_of : Captions → Captions
rdc_of d = captions (styled d.mode paint_on 0 0 d.mode.depth) d.cells

-- "TR and RTD start it", and change nothing else
unfoldable pub text_of : Captions → Captions
text_of d = captions (styled d.mode d.mode.style 1 d.mode.mark d.mode.depth) d.cells

-- "EDM, ENM empty their memory."
unfoldable pub edm_of : Captions → Captions
edm_of d = captions d.mode (empty_all_of d.cells displayed)

unfoldable pub enm_of : Captions → Captions
enm_of d = captions d.mode (empty_all_of d.cells non_displayed)

-- "EOC exchanges the memories, sets pop-on, clears the mark." It ends Text.
unfoldable pub eoc_of : Captions → Captions
eoc_of d = captions (styled d.mode pop_on 0 0 d.mode.depth) (exchanged_of d.cells)
