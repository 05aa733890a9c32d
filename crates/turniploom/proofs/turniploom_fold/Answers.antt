-- `turniploom_fold` passes the folding call on. Assumes nothing.
use Rattle.turniploom.proofs.turniploom_fold.Goals as goal

pub shape_of-code : goal.shape_of-code
shape_of-code c = c.code-1.given

pub shape_of-kinds : goal.shape_of-kinds
shape_of-kinds c = c.kinds-1.given

pub shape_of-words : goal.shape_of-words
shape_of-words c = c.words-1.given

pub shape_of-phi_map : goal.shape_of-phi_map
shape_of-phi_map c = c.phi_map-1.given

pub shape_of-phi_sources : goal.shape_of-phi_sources
shape_of-phi_sources c = c.phi_sources-1.given

pub shape_of-stmt_pos : goal.shape_of-stmt_pos
shape_of-stmt_pos c = c.stmt_pos-1.given

pub shape_of-call_byte_pos : goal.shape_of-call_byte_pos
shape_of-call_byte_pos c = c.call_byte_pos-1.given

pub shape_of-dead : goal.shape_of-dead
shape_of-dead c = c.dead-1.given

pub shape_of-remap : goal.shape_of-remap
shape_of-remap c = c.remap-1.given

pub shape_of-tries : goal.shape_of-tries
shape_of-tries c = c.tries-1.given

pub shape_of-landings : goal.shape_of-landings
shape_of-landings c = c.landings-1.given

pub returns : goal.returns
returns c = c.fold.ensures
