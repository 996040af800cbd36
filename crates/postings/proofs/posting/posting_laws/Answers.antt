use Rattle.postings.specs.PostingsLemmas.{posting_laws}
use Rattle.postings.proofs.posting.posting_laws.Goals as goal

pub returns : goal.returns
returns c = posting_laws
