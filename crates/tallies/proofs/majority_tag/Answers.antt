use Rattle.tallies.proofs.LeadLaws.{is_majority, is_none}
use Rattle.tallies.proofs.majority_tag.Goals as goal

pub returns-then-numbers-tag_tally : goal.returns-then-numbers-tag_tally
returns-then-numbers-tag_tally c = search is_majority

pub returns-else-numbers-tag_tally : goal.returns-else-numbers-tag_tally
returns-else-numbers-tag_tally c = search is_none
