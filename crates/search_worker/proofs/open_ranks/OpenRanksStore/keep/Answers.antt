use Rattle.search_worker.proofs.Opened.{opened-leaf}
use Rattle.search_worker.proofs.open_ranks.OpenRanksStore.keep.Goals as goal

pub returns : goal.returns
returns c = λ problems kept was. opened-leaf problems _ _ kept c.args.leaf _ c.raise.ensures.counted c.raise.ensures.here c.raise.ensures.others c.open_rank.ensures was
