-- The laws of C.
pub mod MailLaws
