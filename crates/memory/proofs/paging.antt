-- The laws of paging: numbers traded in the lists, pages moved, the pieces of the node then, the running group's list, the
-- page to send out, a page sent out, fetched or exchanged, and what a message needs.
pub mod TradeLaws
pub mod MoveLaws
pub mod PiecesLaws
pub mod IdleLaws
pub mod RunnerLaws
pub mod VictimLaws
pub mod CountedLaws
pub mod SendLaws
pub mod FetchLaws
pub mod ExchangeLaws
pub mod PrepareLaws
