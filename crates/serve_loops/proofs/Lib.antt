pub mod AcceptorLaws
