use Rattle.page_image.proofs.FewLemmas.{few_pages, few_in_all}
use Rattle.page_image.proofs.laws.few_pages_differ.Goals as goal

pub returns-clause-behind : goal.returns-clause-behind
returns-clause-behind c = few_pages

pub returns-clause-in_all : goal.returns-clause-in_all
returns-clause-in_all c = few_in_all
