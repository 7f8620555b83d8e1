-- An image has one text and one mode, and a text is that of one protocol.
use Rattle.rvc_top.proofs.StoreForms.{one-protocol}
use Rattle.rvc_top.proofs.store_laws.an_image_is_of_one_protocol.Goals as goal

pub returns : goal.returns
returns c = one-protocol
