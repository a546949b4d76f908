use Rattle.known.proofs.TagLaws.{place_is}
use Rattle.known.proofs.tag_place.Goals as goal

pub returns : goal.returns
returns c = search place_is
